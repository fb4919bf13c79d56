-- A CALL THAT IS DECIDED IS APPLIED: its entries are stored in their order, the lane's next generation among them, and the seal is cleared.
use Rattle.std.specs.Prelude.{List, [], ◌∷◌, ◌++◌, All, Contains, length, slice_get, bit_and, if◌then◌else◌}
use Rattle.std.specs.Option.{option_map}
use Rattle.std.proofs.Common.{◌≡◌, ◌≢◌, ℕ, zero, suc, ◌+◌, ◌*◌, ◌/◌, ◌%◌, ◌<◌, ◌≤◌, inr, true, false, ◌==◌, refl, sym, ap, ◌∙◌, subst, arith, Option, None, Some, append_assoc}
use Rattle.std.proofs.lemmas.Bool.{both_ways, eqb-true, cond_both, true_from_ne_false}
use Rattle.pm_layout.specs.declared.shape.Shape.{Shape}
use Rattle.pm_layout.specs.Areas.{word_of_generation, word_of_seal, word_of_entry, line_of_slot}
use Rattle.pm_view.specs.Bits.{all_bits}
use Rattle.pm_view.specs.Changes.{Undrained}
use Rattle.pm_view.specs.Places.{Place, word_of, is_place}
use Rattle.pm_view.specs.Entries.{Entry, latest, redos, with_redo}
use Rattle.pm_view.specs.Parts.{Part, GenerationPart, SealPart, EntryPart, SlotPart, RootPart, DescriptorPart, ChunkPart, OtherPart, is_entry_word, is_slot_word, pool_part, part_of}
use Rattle.pm_view.specs.Log.{Phase, Applying, Clearing, Log, log_stored}
use Rattle.pm_view.specs.Claims.{class}
use Rattle.pm_view.specs.Views.{value_in, part_in, changed, marked_by}
use Rattle.pm_view.specs.Steps.Step.{Store}
use Rattle.pm_world.specs.States.{given, put1}
use Rattle.pm_world.specs.Sights.{is_use, is_soiled, sight_of}
use Rattle.pm_world.specs.Lanes.{owns, SightFits, Flies, flies_at}
use Rattle.pm_world.specs.Logs.{IsEntryAt, ends_with, AreWhole, AreLeft, AreaChange, IsOld, LogFits}
use Rattle.pm_world.specs.Lawful.{MayStore, StoreFits, Clears}
use Rattle.pm_world.specs.Laws.{KeepsAt, Turn}
use Rattle.pm_world.specs.Memory.{Memory, PoolWord, Becomes, cells_of}
use Rattle.pm_world.specs.World.{Opening, Views, Past, origin, ghost_of, settled_words, LaneFits, World}
use Rattle.pm_world.specs.Course.{past_stored}
use Rattle.pm_world.proofs.Basics.{and_false}
use Rattle.pm_world.proofs.AfterStore.{after_store}
use Rattle.pm_world.proofs.Going.{at_phase}
use Rattle.pm_world.proofs.Replays.{put1_here, put1_else}
use Rattle.pm_world.proofs.StepDraw.{all_cons}
use Rattle.pm_world.proofs.StoreArea.{area_apart, undrained_by, old_known, sight_logged, apart_in, Logged, area_world}

-- ---- which words these are
abbrev pub tag : Part → ℕ
tag GenerationPart = 1
tag SealPart = 2
tag part = 0

abbrev IsWord : Shape → ℕ → ℕ → Part → Type 0
IsWord sh lane w part = (tag part ≡ 1 → w ≡ word_of_generation sh lane) × (tag part ≡ 2 → w ≡ word_of_seal sh lane)

other_part : (sh : Shape) (lane w : ℕ) (part : Part) → tag part ≡ 0 → IsWord sh lane w part
other_part sh lane w part e = (λ q. absurd (omega arith), λ q. absurd (omega arith))

pool_tag : (sh : Shape) (w : ℕ) → tag (pool_part sh w) ≡ 0
pool_tag sh w = cond_both (w == Rattle.pm_layout.specs.Chunks.word_of_root sh) RootPart (if Rattle.pm_layout.specs.Chunks.is_descriptor_word sh w then DescriptorPart (Rattle.pm_layout.specs.Chunks.chunk_described sh w) else if Rattle.pm_layout.specs.Chunks.is_chunk_page sh (w / 512) then ChunkPart (Rattle.pm_layout.specs.Chunks.chunk_at sh (w / 512)) (w % 512) else OtherPart) (λ q. tag q ≡ 0) (λ _. refl)
    (λ _. cond_both (Rattle.pm_layout.specs.Chunks.is_descriptor_word sh w) (DescriptorPart (Rattle.pm_layout.specs.Chunks.chunk_described sh w)) (if Rattle.pm_layout.specs.Chunks.is_chunk_page sh (w / 512) then ChunkPart (Rattle.pm_layout.specs.Chunks.chunk_at sh (w / 512)) (w % 512) else OtherPart) (λ q. tag q ≡ 0) (λ _. refl)
    (λ _. cond_both (Rattle.pm_layout.specs.Chunks.is_chunk_page sh (w / 512)) (ChunkPart (Rattle.pm_layout.specs.Chunks.chunk_at sh (w / 512)) (w % 512)) OtherPart (λ q. tag q ≡ 0) (λ _. refl) (λ _. refl)))

is_word : (sh : Shape) (lane w : ℕ) → IsWord sh lane w (part_of sh lane w)
is_word sh lane w = let pool = pool_part sh w in
    cond_both (w == word_of_generation sh lane) GenerationPart (if w == word_of_seal sh lane then SealPart else if is_entry_word sh lane w then EntryPart else if is_slot_word sh lane w then SlotPart else pool) (IsWord sh lane w) (λ e. (λ _. eqb-true w (word_of_generation sh lane) e, λ q. absurd (omega arith)))
    (λ _. cond_both (w == word_of_seal sh lane) SealPart (if is_entry_word sh lane w then EntryPart else if is_slot_word sh lane w then SlotPart else pool) (IsWord sh lane w) (λ e. (λ q. absurd (omega arith), λ _. eqb-true w (word_of_seal sh lane) e))
    (λ _. cond_both (is_entry_word sh lane w) EntryPart (if is_slot_word sh lane w then SlotPart else pool) (IsWord sh lane w) (λ _. other_part sh lane w EntryPart refl)
    (λ _. cond_both (is_slot_word sh lane w) SlotPart pool (IsWord sh lane w) (λ _. other_part sh lane w SlotPart refl) (λ _. other_part sh lane w pool (pool_tag sh w)))))

pub seal_word : (sh : Shape) (lane w : ℕ) → part_of sh lane w ≡ SealPart → w ≡ word_of_seal sh lane
seal_word sh lane w e = (is_word sh lane w).1 (ap tag e)

pub generation_word : (sh : Shape) (lane w : ℕ) → part_of sh lane w ≡ GenerationPart → w ≡ word_of_generation sh lane
generation_word sh lane w e = (is_word sh lane w).0 (ap tag e)

-- ---- lists of entries
first_entry : (e d : Entry) (t u : List Entry) → (e ∷ t) ≡ (d ∷ u) → (e ≡ d) × (t ≡ u)
first_entry e d t u q = (ap (head e) q, ap tail q)
  where
    head : Entry → List Entry → Entry
    head e [] = e
    head e (d ∷ t) = d

    tail : List Entry → List Entry
    tail [] = []
    tail (d ∷ t) = t

-- an entry of no place, among entries of which the last alone is such
pub last_one : (done front : List Entry) (e y : Entry) (t : List Entry) → (done ++ e ∷ t) ≡ (front ++ y ∷ []) → e.place ≡ None → All (λ (d : Entry). d.place ≢ None) front → (e ≡ y) × (t ≡ [])
last_one [] [] e y t q n a = first_entry e y t [] q
last_one [] (d ∷ front) e y t q n a = absurd (a zero e (omega arith) (sym (ap (λ (z : Entry). z.place) (first_entry e d t (front ++ y ∷ []) q).0) ∙ n))
last_one (d ∷ done) [] e y t q n a = let z = ap length (first_entry d y (done ++ e ∷ t) [] q).1 in absurd (omega (arith, Rattle.std.proofs.lemmas.List.length-append done (e ∷ t)))
last_one (d ∷ done) (c ∷ front) e y t q n a = last_one done front e y t (first_entry d c (done ++ e ∷ t) (front ++ y ∷ []) q).1 n (λ i z l. a (suc i) z (omega arith))

pub entry_at : (done : List Entry) (e : Entry) (t : List Entry) → slice_get (done ++ e ∷ t) (length done) ≡ Some e
entry_at [] e t = refl
entry_at (d ∷ done) e t = entry_at done e t

-- ---- THE WORDS OF ITS AREA
module _ (o : Opening) (mem new : Memory) (views views' : Views) (g : Past) (x : World o mem views g) (k : ℕ) (ink : k < o.lanes) (w n : ℕ) (m : MayStore (views k) w n) (due : Rattle.pm_view.specs.Counts.MayCount (views k)) (b : Becomes (PoolWord w) n mem new) where
  f : LaneFits o mem g k (views k)
  f = x.each_lane k ink

  part_here : (part : Part) → part_in (views k) w ≡ part → part_of o.shape k w ≡ part
  part_here part e = subst (λ s. part_of s k w ≡ part) (x.each_lane k ink).shape (subst (λ l. part_of (views k).fixed.shape l w ≡ part) (x.each_lane k ink).lane e)

  part_there : (part : Part) → part_of o.shape k w ≡ part → part_in (views k) w ≡ part
  part_there part e = subst (λ s. part_of s (views k).fixed.lane w ≡ part) (sym (x.each_lane k ink).shape) (subst (λ l. part_of o.shape l w ≡ part) (sym (x.each_lane k ink).lane) e)

  abbrev LogIn : Log → Type 0
  LogIn l = LogFits o.shape k ((cells_of o.shape mem).generation k) ((cells_of o.shape mem).seal k) ((cells_of o.shape mem).entry k) ((cells_of o.shape mem).slot k) (settled_words o g) (owns g.geo (settled_words o g) (sight_of (views k)).hold) (sight_of (views k)).picture l (views k).changes

  log_in : (ph : Phase) → (views k).log.phase ≡ ph → LogIn (record (views k).log { phase = ph })
  log_in ph e = subst (λ z. LogIn (record (views k).log { phase = z })) e (x.each_lane k ink).log

  abbrev SightIn : Rattle.pm_world.specs.Sights.Sight → Type 0
  SightIn y = SightFits o.shape (cells_of o.shape mem) (settled_words o g) (Flies (ghost_of g) k) (ghost_of g) k y

  sight_in : (ph : Phase) → (views k).log.phase ≡ ph → SightIn (record (sight_of (views k)) { phase = ph })
  sight_in ph e = at_phase o.shape o.lanes (origin o) (cells_of o.shape mem) (λ j. sight_of (views j)) (ghost_of g) x.bits k ink ph e

  words_else : (v : ℕ) → v ≢ w → put1 (λ u. mem (PoolWord u)) w n v ≡ mem (PoolWord v)
  words_else v ne = put1_else (λ u. mem (PoolWord u)) w n v ne

  -- the seal is stored
  module _ (at : w ≡ word_of_generation o.shape k + 1) where
    apart : (p : Place) → w ≢ word_of (views k).fixed.shape p
    apart = apart_in o mem new views views' g x k ink w n 1 at (omega arith) m due b

    clears_log : (views k).log.phase ≡ Applying [] → part_of o.shape k w ≡ SealPart → Clears (views k) n [] → Logged o mem new views views' g x k ink w n 1 at (omega arith) m due b (record (views k).log { phase = Clearing })
    clears_log e part c = let l = log_in (Applying []) e in let whole = l.phase.0 in let left = l.phase.1 in
        let bumped : (views k).log.bumped ≡ true = true_from_ne_false (views k).log.bumped (λ q. let z = (left.to_end q).1 in omega arith) in record {
          first = l.first;
          last = l.last;
          below = l.below;
          stored = words_else (word_of_generation o.shape k) (λ q. omega arith) ∙ l.stored;
          bump = bumped;
          sealed = ap (put1 (λ u. mem (PoolWord u)) w n) (let q : word_of_seal o.shape k ≡ w = omega arith in q) ∙ (put1_here (λ u. mem (PoolWord u)) w n ∙ c.zero_);
          entries_most = l.entries_most;
          records_most = l.records_most;
          pairs = λ i d q. let z = l.pairs i d q in (words_else (word_of_entry o.shape k i + 0) (λ r. omega arith) ∙ z.0, words_else (word_of_entry o.shape k i + 1) (λ r. omega arith) ∙ z.1, z.2, z.3);
          pair_part = λ i q. words_else (word_of_entry o.shape k (length (views k).log.entries) + i) (λ r. omega arith) ∙ l.pair_part i q;
          records = λ i r q. let z = l.records i r q in (λ y s. words_else (8 * line_of_slot o.shape k i + y) (λ t. omega arith) ∙ z.0 y s, z.1, z.2, z.3, z.4, z.5);
          once = l.once;
          olds = λ p y q i. ((l.olds p y q i).0, λ u. absurd (both_ways true u refl));
          slot_part = λ i q. words_else (8 * line_of_slot o.shape k (length (views k).log.records) + i) (λ t. omega arith) ∙ l.slot_part i q;
          stale = λ i u q z t. l.stale i u q z (sym (ap Rattle.pm_record.specs.Undo.undo_of (λ j. slots i j)) ∙ t);
          slot_changes = all_cons (λ (c : Undrained). part_of o.shape k c.word ≡ Rattle.pm_view.specs.Parts.SlotPart → c.word < 8 * line_of_slot o.shape k (Rattle.pm_world.specs.Logs.used_slots ((views k).log))) (undrained_by (views k) w) (views k).changes (λ _. omega arith) (λ i d q. let z = ap length c.drained in absurd (omega arith));
          area_changes = all_cons (λ (d : Undrained). AreaChange Clearing (length (views k).log.entries) (views k).log.generation (part_of o.shape k d.word) d) (undrained_by (views k) w) (views k).changes
              (subst (λ q. AreaChange Clearing (length (views k).log.entries) (views k).log.generation q (undrained_by (views k) w)) (sym part) (old_known (views k) w (length (views k).log.entries) SealPart (part_there SealPart part) (λ known. refl) (let z = l.entries_most in omega arith) (ap (value_in (views k)) seal_at ∙ c.known)))
              (λ i d q. let z = ap length c.drained in absurd (omega arith));
          phase = (record { front = whole.front; are = whole.are; placed = whole.placed }, l.phase.2, l.phase.3);
        }
      where
        seal_at : w ≡ word_of_seal (views k).fixed.shape (views k).fixed.lane
        seal_at = at ∙ subst (λ s. word_of_generation o.shape k + 1 ≡ word_of_seal s (views k).fixed.lane) (sym (x.each_lane k ink).shape) (subst (λ l. word_of_generation o.shape k + 1 ≡ word_of_seal o.shape l) (sym (x.each_lane k ink).lane) (omega arith))

        slots : (i : ℕ) → Rattle.pm_world.specs.Logs.slot_list (λ y. put1 (λ u. mem (PoolWord u)) w n (8 * line_of_slot o.shape k i + y)) ≡ Rattle.pm_world.specs.Logs.slot_list (λ y. mem (PoolWord (8 * line_of_slot o.shape k i + y)))
        slots i = ap Rattle.pm_world.specs.Logs.slot_list (λ t y. words_else (8 * line_of_slot o.shape k i + y) (λ r. omega arith) t)

    clears_sight : (views k).log.phase ≡ Applying [] → (views k).changes ≡ [] → SightIn (sight_logged (views k) w n apart (record (views k).log { phase = Clearing }))
    clears_sight e clean = let z = sight_in (Applying []) e in record {
      hold = z.hold;
      bits = λ p i t. let y = z.bits p i t in (λ al lf _. y.0 al lf (and_false ((sight_of (views k)).logged p)), y.1, y.2, y.3);
      picture = z.picture;
      turns = z.turns;
      call = record { flight = tt; todo = z.call.todo; descr = z.call.descr };
      reach = z.reach;
      plain = z.plain;
      logged = λ p i q. absurd (both_ways true q refl);
      stored = λ p i q. absurd (both_ways true q refl);
      fresh = z.fresh;
      sizes = z.sizes;
      born = λ q. absurd (both_ways false refl q);
      guarded = λ q. absurd (both_ways false refl q);
      soiled = λ p i t. absurd (both_ways ((sight_of (views k)).soiled p i) (subst (λ c. is_soiled (views k).fixed.shape (sight_of (views k)).hold c p i ≡ false) (sym clean) (and_false (is_use (sight_of (views k)).hold p))) t);
    }

    -- THE SEAL IS TO BE CLEARED
    pub clears : (views k).log.phase ≡ Applying [] → part_of o.shape k w ≡ SealPart → Clears (views k) n [] → Turn views views' k (after_store (views k) w n (record (views k).log { phase = Clearing })) → World o new views' g
    clears e part c t = area_world o mem new views views' g x k ink w n 1 at (omega arith) m due b (record (views k).log { phase = Clearing }) (λ j q. absurd (subst (λ z. flies_at z j) e q)) (clears_sight e c.drained) (clears_log e part c) tt (λ _. (x.each_lane k ink).made (ap Rattle.pm_world.specs.Lanes.is_decided e)) (λ u. absurd (both_ways true u refl)) t

  -- the next generation is stored
  module _ (at : w ≡ word_of_generation o.shape k + 0) (e : Entry) (t : List Entry) (ph : (views k).log.phase ≡ Applying (e ∷ t)) (part : part_of o.shape k w ≡ GenerationPart) (word : e.word ≡ w) (value : e.value ≡ n) (known : value_in (views k) w ≡ Some (views k).log.generation) where
    apart_now : (p : Place) → w ≢ word_of (views k).fixed.shape p
    apart_now = apart_in o mem new views views' g x k ink w n 0 at (omega arith) m due b

    before : LogIn (record (views k).log { phase = Applying (e ∷ t) })
    before = log_in (Applying (e ∷ t)) ph

    index : IsEntryAt (record (views k).log { phase = Applying (e ∷ t) }) (length before.phase.1.done) e
    index = ap (λ es. slice_get es (length before.phase.1.done)) before.phase.1.are ∙ entry_at before.phase.1.done e t

    no_place : e.place ≡ None
    no_place = go e.place refl
      where
        go : (p : Option Place) → e.place ≡ p → p ≡ None
        go None q = refl
        go (Some p) q = let z = before.pairs (length before.phase.1.done) e index in let y = subst (λ d. Rattle.std.specs.Prelude.IfSome d (λ p. (is_place o.shape p ≡ true) × (word_of o.shape p ≡ e.word) × Rattle.pm_world.specs.Logs.EntryOf p e.op e.value)) q z.3 in
            absurd (area_apart o.shape k 0 w (let most = x.most_lanes in omega arith) (omega arith) at p (sym word ∙ sym y.1))

    is_last : (e ≡ ends_with o.shape k (views k).log.generation) × (t ≡ [])
    is_last = last_one before.phase.1.done before.phase.0.front e (ends_with o.shape k (views k).log.generation) t (sym before.phase.1.are ∙ before.phase.0.are) no_place before.phase.0.placed

    abbrev log_now : Log
    log_now = record (views k).log { phase = Applying t; bumped = true }

    ended_log : Logged o mem new views views' g x k ink w n 0 at (omega arith) m due b (record (views k).log { phase = Applying t; bumped = true })
    ended_log = let l = before in let next : n ≡ (views k).log.generation + 1 = sym value ∙ ap (λ (d : Entry). d.value) is_last.0 in record {
      first = l.first;
      last = l.last;
      below = λ _. l.below (inr (inr some_entries));
      stored = ap (put1 (λ u. mem (PoolWord u)) w n) (let q : word_of_generation o.shape k ≡ w = omega arith in q) ∙ (put1_here (λ u. mem (PoolWord u)) w n ∙ (next ∙ omega arith));
      bump = tt;
      sealed = words_else (word_of_seal o.shape k) (λ q. omega arith) ∙ l.sealed;
      entries_most = l.entries_most;
      records_most = l.records_most;
      pairs = λ i d q. let z = l.pairs i d q in (words_else (word_of_entry o.shape k i + 0) (λ r. omega arith) ∙ z.0, words_else (word_of_entry o.shape k i + 1) (λ r. omega arith) ∙ z.1, z.2, z.3);
      pair_part = λ i q. words_else (word_of_entry o.shape k (length (views k).log.entries) + i) (λ r. omega arith) ∙ l.pair_part i q;
      records = λ i r q. let z = l.records i r q in (λ y s. words_else (8 * line_of_slot o.shape k i + y) (λ t. omega arith) ∙ z.0 y s, z.1, z.2, z.3, z.4, z.5);
      once = l.once;
      olds = l.olds;
      slot_part = λ i q. words_else (8 * line_of_slot o.shape k (length (views k).log.records) + i) (λ t. omega arith) ∙ l.slot_part i q;
      stale = λ i u q z y. l.stale i u q z (sym (ap Rattle.pm_record.specs.Undo.undo_of (λ j. slots i j)) ∙ y);
      slot_changes = all_cons (λ (c : Undrained). part_of o.shape k c.word ≡ Rattle.pm_view.specs.Parts.SlotPart → c.word < 8 * line_of_slot o.shape k (Rattle.pm_world.specs.Logs.used_slots ((views k).log))) (undrained_by (views k) w) (views k).changes (λ _. omega arith) l.slot_changes;
      area_changes = all_cons (λ (d : Undrained). AreaChange (Applying t) (length (views k).log.entries) (views k).log.generation (part_of o.shape k d.word) d) (undrained_by (views k) w) (views k).changes
          (subst (λ q. AreaChange (Applying t) (length (views k).log.entries) (views k).log.generation q (undrained_by (views k) w)) (sym part) (old_known (views k) w (views k).log.generation GenerationPart (part_there GenerationPart part) (λ known. refl) (let z = l.last in omega arith) known))
          l.area_changes;
      phase = (
        record { front = l.phase.0.front; are = l.phase.0.are; placed = l.phase.0.placed },
        record { done = l.phase.1.done ++ e ∷ []; are = l.phase.1.are ∙ sym (append_assoc l.phase.1.done (e ∷ []) t); ends = λ _ i d q. let z = ap length is_last.1 in absurd (omega arith); to_end = λ q. absurd (both_ways true q refl) },
        l.phase.2,
        l.phase.3,
      );
    }
      where
        some_entries : 1 ≤ length (views k).log.entries
        some_entries = let z = ap length before.phase.1.are in omega (arith, Rattle.std.proofs.lemmas.List.length-append before.phase.1.done (e ∷ t))

        slots : (i : ℕ) → Rattle.pm_world.specs.Logs.slot_list (λ y. put1 (λ u. mem (PoolWord u)) w n (8 * line_of_slot o.shape k i + y)) ≡ Rattle.pm_world.specs.Logs.slot_list (λ y. mem (PoolWord (8 * line_of_slot o.shape k i + y)))
        slots i = ap Rattle.pm_world.specs.Logs.slot_list (λ t y. words_else (8 * line_of_slot o.shape k i + y) (λ r. omega arith) t)

    same_left : (p : Place) (i : ℕ) → latest (redos (e ∷ t)) p i ≡ latest (redos t) p i
    same_left p i = ap (λ q. latest (with_redo q e (redos t)) p i) no_place

    ended_sight : SightIn (sight_logged (views k) w n apart_now (record (views k).log { phase = Applying t; bumped = true }))
    ended_sight = let z = sight_in (Applying (e ∷ t)) ph in record {
      hold = z.hold;
      bits = λ p i q. let y = z.bits p i q in (λ al lf _. y.0 al (ap given (same_left p i) ∙ lf) (and_false ((sight_of (views k)).logged p)), y.1, y.2, y.3);
      picture = z.picture;
      turns = z.turns;
      call = record { flight = tt; todo = λ p i y q. z.call.todo p i y (same_left p i ∙ q); descr = z.call.descr };
      reach = z.reach;
      plain = z.plain;
      logged = λ p i q. absurd (both_ways true q refl);
      stored = λ p i q. absurd (both_ways true q refl);
      fresh = z.fresh;
      sizes = z.sizes;
      born = λ q. absurd (both_ways false refl q);
      guarded = λ q. absurd (both_ways false refl q);
      soiled = z.soiled;
    }

    -- THE ENTRY THAT ENDS THE GENERATION IS APPLIED
    pub ends_generation : Turn views views' k (after_store (views k) w n (record (views k).log { phase = Applying t; bumped = true })) → World o new views' g
    ends_generation y = area_world o mem new views views' g x k ink w n 0 at (omega arith) m due b (record (views k).log { phase = Applying t; bumped = true }) (λ j q. absurd (subst (λ z. flies_at z j) ph q)) ended_sight ended_log tt (λ _. (x.each_lane k ink).made (ap Rattle.pm_world.specs.Lanes.is_decided ph)) (λ u. absurd (both_ways true u refl)) y

-- ---- a store, its phase and its part written out
abbrev Stored : Views → Views → ℕ → ℕ → ℕ → Phase → Part → Type 0
Stored views views' k w n ph q = Turn views views' k (changed (Store w n) (views k) w all_bits n (marked_by ph q n (views k).claims) (log_stored (views k).fixed.shape (class (views k).claims) ph q n (views k).log))

abbrev StoresIn : Phase → Part → Type 0
StoresIn ph q = (w n : ℕ) (o : Opening) (mem new : Memory) (views views' : Views) (g : Past) (k : ℕ) → World o mem views g → k < o.lanes → MayStore (views k) w n → Rattle.pm_view.specs.Counts.MayCount (views k)
    → (views k).log.phase ≡ ph → part_in (views k) w ≡ q → StoreFits (views k) w n ph q → Becomes (PoolWord w) n mem new → Stored views views' k w n ph q → World o new views' (past_stored ph q n g)

pub stores_at : (ph : Phase) (q : Part) → StoresIn ph q → KeepsAt ph q
stores_at ph q f w n o mem new views views' g k x ink law e part moves t = let G : Phase → Part → Type 0 = λ ph q. World o new views' (past_stored ph q n g) in
    subst (λ z. G z (part_in (views k) w)) (sym e) (subst (G ph) (sym part) (f w n o mem new views views' g k x ink law.allowed (law.due refl) e part
    (subst (StoreFits (views k) w n ph) part (subst (λ z. StoreFits (views k) w n z (part_in (views k) w)) e law.allowed.fits)) moves
    (subst (Stored views views' k w n ph) part (subst (λ z. Stored views views' k w n z (part_in (views k) w)) e t))))

pub clears_seal : (todo : List Entry) → KeepsAt (Applying todo) SealPart
clears_seal todo = stores_at (Applying todo) SealPart (λ w n o mem new views views' g k x ink m due e part c moves t.
    let here = part_here o mem new views views' g x k ink w n m due moves SealPart part in
    clears o mem new views views' g x k ink w n m due moves (seal_word o.shape k w here ∙ omega arith) (e ∙ ap (λ l. Applying l) c.all) here (subst (Clears (views k) n) c.all c) t)

pub applies_generation : (todo : List Entry) → KeepsAt (Applying todo) GenerationPart
applies_generation [] = stores_at (Applying []) GenerationPart (λ w n o mem new views views' g k x ink m due e part c moves t. absurd c.0)
applies_generation (d ∷ todo) = stores_at (Applying (d ∷ todo)) GenerationPart (λ w n o mem new views views' g k x ink m due e part c moves t.
    let here = part_here o mem new views views' g x k ink w n m due moves GenerationPart part in
    ends_generation o mem new views views' g x k ink w n m due moves (generation_word o.shape k w here ∙ omega arith) d todo e here c.0.0 c.0.2 c.1 t)
