-- A WRITE: its bytes stand in the words that it covers, it is told, and the lane is at work again.
use Rattle.std.proofs.Common.{◌≡◌, ◌≢◌, ℕ, ◌+◌, ◌-◌, ◌*◌, ◌/◌, ◌%◌, ◌^◌, ◌<◌, ◌≤◌, ◌⊎◌, inl, inr, ⊎_elim, Bool, true, false, cond, not, nat_le, ◌&&◌, ◌==◌, Contains, List, [], ◌∷◌, ◌++◌, length, refl, sym, ap, ◌∙◌, subst, arith, Option, None, Some}
use Rattle.std.specs.Option.{option_map}
use Rattle.std.proofs.lemmas.Bool.{and_from, and_right, both_ways, cases_Bool, cases_lt, cond-true, cond-false, eqb-true, and_parts, leb-true}
use Rattle.std.proofs.lemmas.List.FromFn.{length-range_with_len}
use Rattle.std.proofs.lemmas.Option.{same_Some}
use Rattle.pm_layout.specs.Areas.{word_of_generation, word_of_seal}
use Rattle.pm_objects.specs.declared.calls.Operation.{Operation}
use Rattle.pm_objects.specs.declared.calls.Operation.TheVariants.{Write}
use Rattle.pm_objects.specs.declared.history.Value.{Value}
use Rattle.pm_objects.specs.declared.ids.Oid.{Oid}
use Rattle.pm_objects.specs.declared.refusal.Refusal.TheVariants as refusal
use Rattle.pm_model.specs.Inside.{after_reply, is_kept_by}
use Rattle.pm_model.specs.Items.{Items, edited, put_into}
use Rattle.pm_model.specs.Pending.{Pending, SetWord}
use Rattle.pm_model.specs.Refusals.{first_of}
use Rattle.pm_model.specs.Transaction.{Transaction, covered_words, idle}
use Rattle.pm_view.specs.Changes.{Undrained}
use Rattle.pm_view.specs.Claims.{header_in}
use Rattle.pm_view.specs.Entries.{first_of_two}
use Rattle.pm_view.specs.Log.{old_of}
use Rattle.pm_view.specs.Places.{Place, Block, is_data, word_of}
use Rattle.pm_view.specs.Steps.Step.{Tell}
use Rattle.pm_view.specs.View.{View, Told}
use Rattle.pm_view.specs.Views.{after, after_all, value_in}
use Rattle.pm_view.specs.Steps.{Step}
use Rattle.pm_world.specs.LaneFields.{Standing, at_work, moved}
use Rattle.pm_world.specs.Lanes.{is_occupancy}
use Rattle.pm_world.specs.Lawful.{Allowed, place_in}
use Rattle.pm_world.specs.Memory.{bit}
use Rattle.pm_world.specs.Sights.{is_pictured, is_recorded, picture}
use Rattle.pm_world.specs.States.{given}
use Rattle.pm_world.proofs.RecordsAtPlaces.{data_pictured}
use Rattle.pm_crash.specs.Calls.{pending_of, pending_with}
use Rattle.pm_crash.specs.Footprints.{has_found}
use Rattle.pm_crash.specs.Looked.{KnowsSize, size_seen, word_place}
use Rattle.pm_crash.specs.OpenRuns.{no_pool}
use Rattle.pm_crash.specs.Sim.{Grows, Sim, change_so_far, lists_of}
use Rattle.pm_crash.specs.SimOps.{Puts, PutsBytes}
use Rattle.pm_crash.proofs.Covered.{byte_is_covered, count_of, covered_has_byte, covers_none, covers_some}
use Rattle.pm_crash.proofs.OpenRuns.{told_once_more}
use Rattle.pm_crash.proofs.SimWrites.{sim_writes}
use Rattle.pm_crash.proofs.Telling.{tells_grow}
use Rattle.pm_plan.specs.Plans.{IsForeseen, Plan, Ready, in_turn, known_word}
use Rattle.pm_plan.proofs.Going.{Goes, goes_one, goes_repeated, goes_then}
use Rattle.pm_plan.specs.Notes.{IsBeyond, Note, noted}
use Rattle.pm_undo.specs.Working.{IsWorking}
use Rattle.pm_plan.proofs.Notes as notes
use Rattle.pm_undo.proofs.Logging.{all_still}
use Rattle.pm_crash.proofs.Composing.{growths_compose}
use Rattle.pm_call.specs.At.{At, AreLists, MaySet, entries_so_far}
use Rattle.pm_call.specs.Did.{IsUnrefused, next, unseen}
use Rattle.pm_call.specs.Held.{IsObjectWord}
use Rattle.pm_call.specs.Plans.{tells, writes_word, writes_words}
use Rattle.pm_call.specs.Waiting.{HasPending}
use Rattle.pm_call.specs.Writing.{LeadsWrite, MayPut, RangesMayBeWritten}
use Rattle.pm_call.proofs.Frames.{header_so, noting}
use Rattle.pm_call.proofs.KnownObjects.{fresh_is, held_object, size_word, word_number}
use Rattle.pm_call.proofs.Noting.{KeepsHeld, all_map, bytes_so, data_so, found_so, held_grows, held_told_at}
use Rattle.pm_call.proofs.ObjectWords.{object_place}
use Rattle.pm_call.proofs.RangeReads.{begun_more, range_passes}
use Rattle.pm_call.proofs.RangeRefusals.{range_refusals, ranges_are_looked_at}
use Rattle.pm_call.proofs.RangeWords.{sized}
use Rattle.pm_call.proofs.RecordedWords.{header_apart, one_use}
use Rattle.pm_call.proofs.Storing as storing
use Rattle.pm_call.proofs.Storing.{IsCovered, Stored, Storing, block, goes_word, index, new_small, new_word, range_place, storing_starts}
use Rattle.pm_call.proofs.Staying.{now_told, pending_told}

-- a word is covered, or not
covered_or : (place len i : ℕ) → Contains (covered_words place len) i ⊎ (¬ Contains (covered_words place len) i)
covered_or place len i = ⊎_elim
    (λ (some : 0 < len). ⊎_elim
    (λ (low : 8 * i < place + len). ⊎_elim
    (λ (high : place < 8 * i + 8). inl (byte_is_covered place len i some low high))
    (λ (no : 8 * i + 8 ≤ place). inr (λ c. let h = (covered_has_byte place len i c).2 in omega (arith, h, no))) (cases_lt place (8 * i + 8)))
    (λ (no : place + len ≤ 8 * i). inr (λ c. let h = (covered_has_byte place len i c).1 in omega (arith, h, no))) (cases_lt (8 * i) (place + len)))
    (λ (no : len ≤ 0). inr (λ c. let h = (covered_has_byte place len i c).0 in omega (arith, h, no))) (cases_lt 0 len)

-- the words are those from the first on
words_many : (place len : ℕ) → ((len ≡ 0) × (length (covered_words place len) ≡ 0)) ⊎ ((0 < len) × (length (covered_words place len) ≡ count_of place len))
words_many place len = ⊎_elim
    (λ (some : 0 < len). inr (some, ap length (covers_some place len some) ∙ length-range_with_len (place / 8) (count_of place len)))
    (λ (no : len ≤ 0). let z : len ≡ 0 = omega (arith, no) in inl (z, ap length (ap (covered_words place) z ∙ covers_none place))) (cases_lt 0 len)

pub one_covered : (place len k : ℕ) → k < length (covered_words place len) → Contains (covered_words place len) (place / 8 + k)
one_covered place len k low = ⊎_elim
    (λ (z : (len ≡ 0) × (length (covered_words place len) ≡ 0)). absurd (let e = z.1 in omega (arith, e, low)))
    (λ (m : (0 < len) × (length (covered_words place len) ≡ count_of place len)). let some = m.0 in let e = m.1 in byte_is_covered place len (place / 8 + k) some (omega (arith, e, low, some)) (omega arith))
    (words_many place len)

pub below_top : (place len i : ℕ) → Contains (covered_words place len) i → i < place / 8 + length (covered_words place len)
below_top place len i c = let b = covered_has_byte place len i c in let some = b.0 in let hi = b.1 in ⊎_elim
    (λ (z : (len ≡ 0) × (length (covered_words place len) ≡ 0)). absurd (let e = z.0 in omega (arith, e, some)))
    (λ (m : (0 < len) × (length (covered_words place len) ≡ count_of place len)). let e = m.1 in omega (arith, e, hi, some))
    (words_many place len)

before_so : (f : ℕ → Bool) (old : Option ℕ) (a c : Option Bool) (y : Bool) → (given old ≡ false → a ≡ c) → first_of_two (option_map f old) a ≡ Some y → first_of_two (option_map f old) c ≡ Some y
before_so f None a c y h e = sym (h refl) ∙ e
before_so f (Some z) a c y h e = e

-- AN OPERATION THAT SAYS THAT THESE BYTES ARE PUT THERE, with its reply: it is not refused, the
-- model puts them into its copy, and all else of its lists and of the lane's stays
pub record SaysPut (s : Standing) (id : Oid) (off : ℕ) (bytes : List ℕ) (op : Operation)
    (reply : Option Value) : Type 0 where
  pub unrefused : IsUnrefused s op
  pub puts : Puts s.view [] (record { operation = op; seen = unseen; reply = reply }) id.off off
      bytes
  pub copy : (tx : Transaction) → (items : Items)
      × (after_reply op reply tx ≡ record tx { items = items })
  pub plain : (p : Pending) → pending_with op reply p ≡ p
  pub told : (v : View) → after v (Tell op reply)
      ≡ record v { call = v.call ++ record { operation = op; reply = reply } ∷ [] }

-- its plan may be carried out, and the lane is at work then, with the same fields
pub record LeadsPut (s : Standing) (plan : Plan) : Type 0 where
  pub ready : Ready s.view (plan s.view)
  pub stands : At (next s plan)
  pub fields : at_work (next s plan) ≡ at_work s

module _ (s : Standing) (at : At s) (id : Oid) (off : ℕ) (bytes : List ℕ)
    (can : MayPut s id off bytes) (op : Operation) (reply : Option Value)
    (says : SaysPut s id off bytes op reply) where
  abbrev v : View
  v = s.view

  abbrev place : ℕ
  place = id.off + off

  abbrev IsIn : ℕ → Type 0
  IsIn i = IsCovered s at id off bytes can i

  abbrev new : ℕ → ℕ
  new i = new_word s at id off bytes can i

  abbrev B : Block
  B = block s at id off bytes can

  abbrev q : ℕ → Place
  q i = range_place s at id off bytes can i

  recorded_is : (i : ℕ) → IsIn i → is_recorded v.log.records (q i) ≡ true
  recorded_is i c = storing.recorded_is s at id off bytes can i c

  -- no covered word is one of the lane's area
  far_word : (w : ℕ) → (IsBeyond v.fixed.shape w → ⊥) → ¬ IsIn w
  far_word w near c = near (storing.beyond s at id off bytes can w c)

  not_generation : ¬ IsIn (word_of_generation v.fixed.shape v.fixed.lane)
  not_generation = far_word (word_of_generation v.fixed.shape v.fixed.lane) (λ f. let a = at.working.lane in omega (arith, f, a))

  not_seal : ¬ IsIn (word_of_seal v.fixed.shape v.fixed.lane)
  not_seal = far_word (word_of_seal v.fixed.shape v.fixed.lane) (λ f. let a = at.working.lane in omega (arith, f, a))

  -- a word of an object that the lane found is where the lane says
  use_at : (C : Block) (k i : ℕ) (is : IsObjectWord v C k) → word_of v.fixed.shape (word_place v C k) ≡ i → place_in v i ≡ Some (word_place v C k)
  use_at C k i is e = ap (place_in v) (sym e) ∙ (object_place v at.sound C k is).use_

  -- and none has a size
  not_size : (C : Block) → has_found v C ≡ true → is_occupancy v.fixed.shape C ≡ true → ¬ IsIn (8 * header_in v.fixed.shape v.claims C + 1)
  not_size C f o c =
      let own : IsObjectWord v C 1 = size_word v at.sound (header_in v.fixed.shape v.claims C) (record { block = C; found = f; at = refl; inside = o }) in
      let i : ℕ = 8 * header_in v.fixed.shape v.claims C + 1 in
      let w = storing.word_is s at id off bytes can i c in
      header_apart v at.sound C B 1 (index s at id off bytes can i) f w.found (omega arith) (storing.index_high s at id off bytes can i c) w.within
      (same_Some (word_place v C 1) (q i) (sym (use_at C 1 i own (word_number v at.sound C 1 own)) ∙ storing.use_is s at id off bytes can i c))

  -- the size of an object at an offset
  size_at : (offset : ℕ) (C : Block) → has_found v C ≡ true → is_occupancy v.fixed.shape C ≡ true → 8 * header_in v.fixed.shape v.claims C + 1 ≡ offset / 8 - 7 → ¬ IsIn (offset / 8 - 7)
  size_at offset C f o e = subst (λ n. ¬ IsIn n) e (not_size C f o)

  -- ---- all covered words are stored
  module _ (n : ℕ) (ns : List Note) (changes : List Undrained) (calls : List Step) (st : Stored s at id off bytes can n ns changes) (all : (i : ℕ) → IsIn i → i < n) where
    abbrev u : View
    u = noting s.view ns changes calls s.view.log

    value_out : (i : ℕ) → ¬ IsIn i → value_in u i ≡ value_in v i
    value_out i out = st.stays i (inl out)

    value_new : (i : ℕ) → IsIn i → value_in u i ≡ Some (new i)
    value_new i c = st.done i c (all i c)

    value_given : (p : Place) (y : ℕ) → value_in v (word_of v.fixed.shape p) ≡ Some y → y < 2 ^ 64 → (z : ℕ) × (value_in u (word_of v.fixed.shape p) ≡ Some z) × (z < 2 ^ 64)
    value_given p y e small = ⊎_elim (λ (c : IsIn (word_of v.fixed.shape p)). (new (word_of v.fixed.shape p), value_new (word_of v.fixed.shape p) c, new_small s at id off bytes can (word_of v.fixed.shape p) c)) (λ (out : ¬ IsIn (word_of v.fixed.shape p)). (y, value_out (word_of v.fixed.shape p) out ∙ e, small))
        (covered_or place (length bytes) (word_of v.fixed.shape p))

    picture_out : (p : Place) (b : ℕ) → (is_pictured p ≡ true → ¬ IsIn (word_of v.fixed.shape p)) → picture v.fixed.shape v.claims p b ≡ picture v.fixed.shape (noted ns v.claims) p b
    picture_out p b h = ⊎_elim
        (λ (e : is_pictured p ≡ true). ap (λ o. cond (is_pictured p) (option_map (λ x. bit x b) o) None) (sym (value_out (word_of v.fixed.shape p) (h e))))
        (λ (e : is_pictured p ≡ false). cond-false (is_pictured p) (option_map (λ x. bit x b) (value_in v (word_of v.fixed.shape p))) None e ∙ sym (cond-false (is_pictured p) (option_map (λ x. bit x b) (value_in u (word_of v.fixed.shape p))) None e))
        (cases_Bool (is_pictured p))

    working : IsWorking u
    working = record {
      is_open = at.working.is_open;
      whole = at.working.whole;
      unentered = at.working.unentered;
      below = at.working.below;
      lane = at.working.lane;
      lanes = at.working.lanes;
      zones = at.working.zones;
      unmaking = notes.making_same v.fixed.shape ns v.claims st.each at.working.unmaking;
      clean = st.far;
      few = at.working.few;
      standing = all_still v u v.log.records refl (notes.class_same ns v.claims) at.working.standing;
      once = at.working.once;
      known = value_out (word_of_generation v.fixed.shape v.fixed.lane) not_generation ∙ at.working.known;
    }

    size_data : (offset : ℕ) (k : KnowsSize v [] offset) → has_found v k.block ≡ true → size_seen u offset ≡ size_seen v offset
    size_data offset k f = let a = k.at in value_out (offset / 8 - 7) (size_at offset k.block f k.object.inside (omega (arith, a)))

    size_held : (a : SetWord) → MaySet s a → size_seen u a.id.off ≡ size_seen v a.id.off
    size_held a m = let o = held_object v s.locks at.held a.id.off true m.locked in let t = and_parts (a.id.off % 64 == 0) (nat_le 128 a.id.off) o.0 in
        let even = eqb-true (a.id.off % 64) 0 t.0 in let high = leb-true 128 a.id.off t.1 in let line = o.1.at in
        value_out (a.id.off / 8 - 7) (size_at a.id.off o.1.block o.1.found o.1.inside (omega (arith, even, high, line)))

    keeps : KeepsHeld s ns changes calls s.view.log
    keeps = record {
      each = st.each;
      working = working;
      unbumped = at.unbumped;
      fit = λ C x f o e.
          let old_found : has_found v C ≡ true = sym (found_so v ns changes calls v.log st.each at.working.unmaking C) ∙ f in
          let line = header_so v.fixed.shape ns v.claims st.each at.working.unmaking C in
          subst (λ m. 64 + x ≤ m) (sym (bytes_so v ns changes calls v.log st.each at.working.unmaking C)) (at.sizes C x old_found o
          (sym (value_out (8 * header_in v.fixed.shape v.claims C + 1) (not_size C old_found o)) ∙ (ap (λ h. value_in u (8 * h + 1)) (sym line) ∙ e)));
      seal = value_out (word_of_seal v.fixed.shape v.fixed.lane) not_seal ∙ at.sealed;
      recorded = λ p e. let d = at.recorded p e in let z = value_given p d.value d.known d.small in data_so v ns changes calls v.log st.each at.working.unmaking at.sound p d (size_data d.off d.object d.found ∙ d.object.seen) z.0 z.1 z.2;
      more = λ p e. e;
      knows = λ p b y sees e. before_so (λ x. bit x b) (old_of v.log.records p) (picture v.fixed.shape v.claims p b) (picture v.fixed.shape (noted ns v.claims) p b) y
          (λ fresh_. picture_out p b (λ pic c. let i : ℕ = word_of v.fixed.shape p in let w = storing.word_is s at id off bytes can i c in
          let same : p ≡ q i = one_use v at.sound p b B (index s at id off bytes can i) sees pic w.found w.within (sym (storing.number_is s at id off bytes can i c)) in
          both_ways (is_recorded v.log.records p) fresh_ (ap (is_recorded v.log.records) same ∙ recorded_is i c))) e;
    }

    -- ---- the call has made the bits these
    put_bit : (i b : ℕ) → IsIn i → change_so_far u [] (q i) b ≡ Some (bit (new i) b)
    put_bit i b c = let p = storing.place_is s at id off bytes can i c in
        fresh_is v.fixed.shape (noted ns v.claims) v.log (q i) b
        ∙ (cond-true (is_data (q i) && is_recorded v.log.records (q i)) (picture v.fixed.shape (noted ns v.claims) (q i) b) None (and_from (is_data (q i)) (is_recorded v.log.records (q i)) p.data_ (recorded_is i c))
        ∙ (cond-true (is_pictured (q i)) (option_map (λ x. bit x b) (value_in u (word_of v.fixed.shape (q i)))) None (data_pictured v.fixed.shape (q i) p.data_ p.there)
        ∙ ap (option_map (λ x. bit x b)) (ap (value_in u) (storing.number_is s at id off bytes can i c) ∙ value_new i c)))

    other_bit : (p : Place) (b : ℕ) → ((i : ℕ) → IsIn i → p ≢ q i) → change_so_far u [] p b ≡ change_so_far v [] p b
    other_bit p b ne = fresh_is v.fixed.shape (noted ns v.claims) v.log p b ∙ (⊎_elim
        (λ (e : is_recorded v.log.records p ≡ true). ap (λ o. cond (is_data p && is_recorded v.log.records p) o None) (sym (picture_out p b (λ pic. out e))))
        (λ (e : is_recorded v.log.records p ≡ false). let none = and_right (is_data p) (is_recorded v.log.records p) e in
        cond-false (is_data p && is_recorded v.log.records p) (picture v.fixed.shape (noted ns v.claims) p b) None none ∙ sym (cond-false (is_data p && is_recorded v.log.records p) (picture v.fixed.shape v.claims p b) None none))
        (cases_Bool (is_recorded v.log.records p))
        ∙ sym (fresh_is v.fixed.shape v.claims v.log p b))
      where
        out : is_recorded v.log.records p ≡ true → ¬ IsIn (word_of v.fixed.shape p)
        out e c = let d = at.recorded p e in let i : ℕ = word_of v.fixed.shape p in
            let w : IsObjectWord v d.object.block d.index = record { found = d.found; inside = d.object.object.inside; within = d.within; kind = inr d.data_ } in
            ne i c (d.at ∙ same_Some (word_place v d.object.block d.index) (q i) (sym (use_at d.object.block d.index i w (ap (word_of v.fixed.shape) (sym d.at))) ∙ storing.use_is s at id off bytes can i c))

    -- ---- it is told
    abbrev told_put : Told
    told_put = record { operation = op; reply = reply }

    abbrev next_view : View
    next_view = record u {
      call = s.view.call ++ told_put ∷ [];
      actions = s.view.actions;
      published = s.view.published;
    }

    lists_next : lists_of next_view
        ≡ record (lists_of s.view) { items = (says.copy (lists_of s.view)).0 }
    lists_next = told_once_more v.call told_put (idle no_pool (pending_of v.entries))
        ∙ (says.copy (lists_of s.view)).1

    lists : AreLists (moved s next_view) s.level (lists_of next_view)
    lists = subst (AreLists (moved s next_view) s.level) (sym lists_next) (record {
      level_is = at.lists.level_is;
      works = at.lists.works;
      locks = at.lists.locks;
      count = at.lists.count;
      recorded = at.lists.recorded;
      records = at.lists.records;
      blocks = at.lists.blocks;
      pending = at.lists.pending ∙ sym (now_told v op reply says.plain);
      sets = at.lists.sets;
      may_set = all_map (MaySet s) (MaySet (moved s next_view)) (lists_of s.view).sets
          (λ a m. record { locked = m.locked; aligned = m.aligned; size = m.size; sized = size_held a m ∙ m.sized; inside = m.inside; small = m.small }) at.lists.may_set;
      error_is = at.lists.error_is;
    })

    grows : (kept : Bool) → Grows v (is_kept_by op kept) next_view kept
    grows kept = let was : Bool = is_kept_by op kept in
        growths_compose v u next_view was was kept
        (held_grows s s.level at ns changes calls v.log keeps was)
        (subst (λ (y : View). Grows u was y kept) (says.told u) (tells_grow u op reply kept))

    puts_bytes : PutsBytes v [] next_view [] id.off off bytes
    puts_bytes = record {
      object = sized s at id off (length bytes) true can.range;
      inside = can.range.inside;
      are_bytes = can.are_bytes;
      words = known_word v;
      knows = storing.word_knows s at id off bytes can;
      small = new_small s at id off bytes can;
      puts = λ i b c low. put_bit i b c;
      others = other_bit;
    }

    sim : Sim next_view (entries_so_far s)
    sim = sim_writes v next_view [] [] None
        (record { operation = op; seen = unseen; reply = reply }) at.sim
        (record { keeps = record { fixed = refl; entries = refl }; call = refl })
        (inr at.lists.works) grows (record {
          looks = says.unrefused.looks;
          unrefused = says.unrefused.none;
          off = id.off;
          at = off;
          bytes = bytes;
          is = says.puts;
          puts = puts_bytes;
        })

    pending : HasPending (record v { call = s.view.call ++ told_put ∷ [] })
    pending = subst HasPending (says.told v)
        (pending_told v op reply says.plain (ap (λ (y : View). y.actions) (says.told v)) at.pending)

    stands : At (moved s next_view)
    stands = held_told_at s s.level at ns changes calls v.log keeps next_view.call
        next_view.actions next_view.published s.level at.some at.most
        (begun_more v.call told_put at.begun) lists pending sim

  -- ---- all of it

  abbrev count : ℕ
  count = length (covered_words (id.off + off) (length bytes))

  abbrev InTurn : ℕ → View → Type 0
  InTurn j = Storing s at id off bytes can ((id.off + off) / 8 + j)

  goes_words : Goes (InTurn 0) (writes_words (id.off + off) bytes) (InTurn count)
  unfolding writes_words
  goes_words = goes_repeated InTurn (λ i. writes_word (id.off + off) bytes ((id.off + off) / 8 + i)) count (λ k low w p.
      let r = goes_word s at id off bytes can ((id.off + off) / 8 + k) (one_covered place (length bytes) k low) w p in
      (r.0, subst (λ m. Storing s at id off bytes can m (after_all w (writes_word (id.off + off) bytes ((id.off + off) / 8 + k) w))) (let e : (id.off + off) / 8 + k + 1 ≡ (id.off + off) / 8 + (k + 1) = omega arith in e) r.1))

  -- at work, with the same fields
  abbrev IsThen : View → Type 0
  IsThen w = At (moved s w) × (at_work (moved s w) ≡ at_work s)

  goes_tell : Goes (InTurn count) (tells op reply) IsThen
  goes_tell = goes_one (InTurn count) IsThen (Tell op reply) (λ w p.
      subst (λ (y : View). Allowed y (Tell op reply) × IsForeseen y (Tell op reply)
      × IsThen (after y (Tell op reply))) (sym p.is) (
        at.working.is_open,
        tt,
        subst IsThen (sym (says.told (noting v p.notes p.changes p.calls v.log))) (
          stands (place / 8 + count) p.notes p.changes p.calls p.stored
              (below_top place (length bytes)),
          refl,
        ),
      ))

  abbrev plan : Plan
  plan = in_turn (writes_words (id.off + off) bytes) (tells op reply)

  goes_all : Goes (InTurn 0) plan IsThen
  goes_all = goes_then (InTurn 0) (InTurn count) IsThen (writes_words (id.off + off) bytes)
      (tells op reply) goes_words goes_tell

  pub leads_put : LeadsPut s (in_turn (writes_words (id.off + off) bytes) (tells op reply))
  leads_put =
      let g = goes_all s.view (subst (λ m. Storing s at id off bytes can m s.view)
      (let e : (id.off + off) / 8 ≡ (id.off + off) / 8 + 0 = omega arith in e)
      (storing_starts s at id off bytes can)) in
      record { ready = g.0; stands = g.1.0; fields = g.1.1 }

-- ---- A WRITE tells no more than that
module _ (s : Standing) (at : At s) (id : Oid) (off : ℕ) (bytes : List ℕ)
    (can : MayPut s id off bytes) where
  says_write : SaysPut s id off bytes (Write id off bytes) None
  unfolding first_of
  says_write = record {
    unrefused = let t = range_passes s id off (length bytes) true can.range in record {
      looks = ranges_are_looked_at s (Write id off bytes) id off (length bytes) true at
          (refl, refl, refl, refl) (inl (record {
            size = can.range.size;
            sized = can.range.sized;
            small = can.range.small;
          }));
      none = range_refusals s (Write id off bytes) id off (length bytes) true at
          (refl, refl, refl, refl)
          ∙ (λ i. first_of ((refusal.NotLocked, t.0 i) ∷ (refusal.OutOfRange, t.1 i)
          ∷ (refusal.NotAdded, not (can.recorded i)) ∷ []));
    };
    puts = inl (id, refl, refl, refl);
    copy = λ tx. (edited (put_into id.off off bytes) tx.items, refl);
    plain = λ p. refl;
    told = λ v. refl;
  }

  pub leads_write : LeadsWrite s id off bytes
  leads_write = let l = leads_put s at id off bytes can (Write id off bytes) None says_write in
      record {
        unrefused = says_write.unrefused;
        ready = l.ready;
        stands = l.stands;
        fields = l.fields;
      }

pub ranges_may_be_written : RangesMayBeWritten
ranges_may_be_written s id off bytes at can = leads_write s at id off bytes can
