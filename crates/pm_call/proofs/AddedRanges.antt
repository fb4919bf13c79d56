-- A range of an object under its write lock may be added, and the lane is at work then.
use Rattle.std.specs.Prelude.{if◌then◌else◌}
use Rattle.std.proofs.Common.{◌≡◌, ℕ, ◌+◌, ◌-◌, ◌*◌, ◌/◌, ◌%◌, ◌<◌, ◌≤◌, ◌⊎◌, inl, inr, ⊎_elim, nat_le, nat_lt, Bool, true, false, cond, ◌==◌, ◌&&◌, Contains, List, [], ◌∷◌, ◌++◌, length, map, refl, sym, ap, ◌∙◌, subst, arith, Option, None, Some}
use Rattle.std.specs.List.{AllByRecursion}
use Rattle.std.specs.Option.{option_map}
use Rattle.std.proofs.lemmas.Bool.{and_from, and_parts, and_right, both_ways, cond-true, cond-false, eqb-true, false_from_ne_true, leb-true, lt-ltb, ltb-true}
use Rattle.std.proofs.lemmas.List.{length-map}
use Rattle.std.proofs.lemmas.List.Elements.{All-nil}
use Rattle.std.proofs.lemmas.Option.{same_Some}
use Rattle.pm_layout.specs.Areas.{word_of_seal}
use Rattle.pm_model.specs.Inside.{Ran}
use Rattle.pm_model.specs.Refusals.{first_of}
use Rattle.pm_model.specs.Transaction.{covered_words, idle, new_words, records_of}
use Rattle.pm_objects.specs.declared.calls.Operation.{Operation}
use Rattle.pm_objects.specs.declared.calls.Operation.TheVariants.{AddRange}
use Rattle.pm_objects.specs.declared.ids.Oid.{Oid}
use Rattle.pm_objects.specs.declared.refusal.Refusal.TheVariants as refusal
use Rattle.pm_view.specs.Claims.{geometry, header_in}
use Rattle.pm_view.specs.Entries.{first_of_two}
use Rattle.pm_view.specs.Log.{Log, Open, Recorded, old_of}
use Rattle.pm_view.specs.Places.{Place, InRun, InHuge, Descr, RootWord, block_of, is_data, word_of}
use Rattle.pm_view.specs.Steps.Step.{Tell}
use Rattle.pm_view.specs.View.{View, Told}
use Rattle.pm_view.specs.Views.{after, after_all, value_in}
use Rattle.pm_world.specs.LaneFields.{Standing, moved}
use Rattle.pm_world.specs.Lawful.{place_in}
use Rattle.pm_world.specs.Memory.{bit}
use Rattle.pm_world.specs.Sights.{is_pictured, is_recorded, picture}
use Rattle.pm_world.specs.States.{given}
use Rattle.pm_world.proofs.Basics.{given_cases}
use Rattle.pm_world.proofs.RecordsAtPlaces.{data_pictured}
use Rattle.pm_crash.specs.Calls.{pending_of}
use Rattle.pm_crash.specs.Footprints.{bit_before, has_found}
use Rattle.pm_crash.specs.Looked.{Enters, refusal_by, size_seen, word_place}
use Rattle.pm_crash.specs.OpenRuns.{no_pool}
use Rattle.pm_crash.specs.Sim.{Grows, IsAsBefore, SameBits, Sim, change_so_far, lists_of, sees_at}
use Rattle.pm_crash.specs.SimOps.{LookedAt}
use Rattle.pm_crash.proofs.OpenRuns.{told_once_more}
use Rattle.pm_crash.proofs.SimFacts.{no_entries}
use Rattle.pm_crash.proofs.SimOps.{sim_extends}
use Rattle.pm_crash.proofs.Telling.{tells_grow}
use Rattle.pm_plan.specs.Plans.{Ready, in_turn, one}
use Rattle.pm_plan.proofs.Plans.{after_all-append, ready_both}
use Rattle.pm_undo.specs.Plans.{snapshots}
use Rattle.pm_undo.specs.Records.{kept_by, recorded_in}
use Rattle.pm_undo.specs.Spans as spans_of
use Rattle.pm_undo.specs.Undoing.{needed}
use Rattle.pm_plan.specs.Notes.{Note}
use Rattle.pm_undo.specs.Working.{CanSnapshot, HasSlots, IsNoSlot, IsSnapshot, IsWorking}
use Rattle.pm_undo.specs.declared.spans.Span.{Span}
use Rattle.pm_plan.proofs.AreaParts.{data_beyond}
use Rattle.pm_undo.proofs.Fitting.{AreAll, plan_all}
use Rattle.pm_undo.proofs.Ranges.{ranges_may}
use Rattle.pm_undo.proofs.Standing.{snapshot_lawful}
use Rattle.pm_crash.proofs.Composing.{growths_compose}
use Rattle.pm_call.specs.Adding.{CanAdd, RangesMayBeAdded}
use Rattle.pm_call.specs.At.{At, AreLists, IsAt, IsDataOf, MaySet, entries_so_far}
use Rattle.pm_call.specs.Did.{IsRefused, IsUnrefused, unseen}
use Rattle.pm_world.specs.InWorld.{SizesFit}
use Rattle.pm_call.specs.Held.{HasObject, has_line, line_of}
use Rattle.pm_call.specs.Plans.{adds}
use Rattle.pm_call.proofs.Frames.{header_so, noting, sees_same}
use Rattle.pm_call.proofs.KnownObjects.{fresh_is, held_object, sees_data, size_word, word_number}
use Rattle.pm_call.proofs.NewRecords.{IsNewPlace, new_place, old_of_both, records_more, words_recorded}
use Rattle.pm_call.proofs.Noting.{Keeps, all_map, bytes_so, data_so, data_told, found_so, grows, header_line, offset_line, sound_so, told_at}
use Rattle.pm_call.proofs.ObjectWords.{object_place}
use Rattle.pm_call.proofs.RangeRefusals.{none_new, range_refusals, ranges_are_looked_at}
use Rattle.pm_call.proofs.LockedRanges.{InRange, block, found, holds_object, in_object, in_range, known_word_of, knows_new}
use Rattle.pm_call.proofs.RangeReads.{begun_more, range_passes}
use Rattle.pm_call.proofs.RangeWords.{index, sized}
use Rattle.pm_call.proofs.Staying.{now_told, pending_told}

-- ---- options

first_given : (a c : Option ℕ) → given a ≡ true → given (first_of_two a c) ≡ true
first_given None c e = absurd (both_ways false refl e)
first_given (Some x) c e = refl

second_given : (a c : Option ℕ) → given c ≡ true → given (first_of_two a c) ≡ true
second_given None c e = e
second_given (Some x) c e = refl

first_alone : (a c : Option ℕ) → given c ≡ false → given (first_of_two a c) ≡ given a
first_alone None c e = e
first_alone (Some x) c e = refl

second_alone : (a c : Option ℕ) → given a ≡ false → first_of_two a c ≡ c
second_alone None c e = refl
second_alone (Some x) c e = absurd (both_ways true e refl)

-- a bit before the call stays where what is newly recorded is as it was pictured
stays_before : (f : ℕ → Bool) (a c : Option ℕ) (q : Option Bool) (y : Bool) → ((x : ℕ) → c ≡ Some x → q ≡ Some (f x)) → first_of_two (option_map f a) q ≡ Some y → first_of_two (option_map f (first_of_two a c)) q ≡ Some y
stays_before f (Some z) c q y h e = e
stays_before f None None q y h e = e
stays_before f None (Some x) q y h e = sym (h x refl) ∙ e

module _ (s : Standing) (at : At s) (id : Oid) (off len : ℕ) (may : CanAdd s id off len) where
  abbrev v : View
  v = s.view

  abbrev place : ℕ
  place = id.off + off

  abbrev IsCovered : ℕ → Type 0
  IsCovered u = Contains (covered_words (id.off + off) len) u

  abbrev spans : List Span
  spans = needed s.view (id.off + off) len

  abbrev op : Operation
  op = AddRange id off len

  -- ---- it is not refused

  pub many : length (needed s.view (id.off + off) len) ≡ length (records_of (new_words (spans_of.words_in (kept_by s.view)) (covered_words (id.off + off) len)))
  unfolding spans_of.plan_of spans_of.spans_for
  many = length-map (records_of (new_words (spans_of.words_in (kept_by s.view)) (covered_words (id.off + off) len))) spans_of.span_in

  abbrev records_then : ℕ
  records_then = length s.view.log.records + length (records_of (new_words (spans_of.words_in (kept_by s.view)) (covered_words (id.off + off) len)))

  -- it is refused for want of slots alone
  refusal_so : (full : Bool) → nat_lt 64 records_then ≡ full → refusal_by unseen s.view None (AddRange id off len) ≡ (if full then Some refusal.LogFull else None)
  unfolding first_of
  refusal_so full fits = range_refusals s (AddRange id off len) id off len true at (refl, refl, refl, refl) ∙ λ i. first_of ((refusal.NotLocked, (range_passes s id off len true may.range).0 i) ∷ (refusal.OutOfRange, (range_passes s id off len true may.range).1 i) ∷ (refusal.LogFull, fits i) ∷ [])

  looked : LookedAt s.view (entries_so_far s) None (AddRange id off len)
  looked = ranges_are_looked_at s (AddRange id off len) id off len true at (refl, refl, refl, refl) (inl (record { size = may.range.size; sized = may.range.sized; small = may.range.small }))

  pub overfull : 64 < length s.view.log.records + length (needed s.view (id.off + off) len) → IsRefused s (AddRange id off len) refusal.LogFull
  overfull full = record { looks = looked; first = refusal_so true (lt-ltb 64 records_then (let n = many in omega (arith, full, n))) }

  -- its words may be recorded
  pub can : CanSnapshot s.view (needed s.view (id.off + off) len)
  can = ranges_may s.view (block s at id off len true may.range) may.range.size (id.off + off) len at.working at.sound (holds_object s at id off len may.range) (in_object s at id off len may.range) (knows_new s at id off len may.range may.words)

  all_covered : AllByRecursion (AreAll (λ u. Contains (covered_words (id.off + off) len) u)) (needed s.view (id.off + off) len)
  all_covered = plan_all (λ u. Contains (covered_words (id.off + off) len) u) (kept_by s.view) (id.off + off) len (λ u some from to new. Rattle.pm_crash.proofs.Covered.byte_is_covered (id.off + off) len u some to from)

  abbrev news : List Recorded
  news = map (recorded_in s.view) (needed s.view (id.off + off) len)

  -- ---- a newly recorded place

  abbrev IsNew : Place → Type 0
  IsNew p = IsNewPlace s.view (λ u. Contains (covered_words (id.off + off) len) u) news p

  new_of : (p : Place) → is_recorded news p ≡ true → IsNew p
  new_of p e = new_place s.view (λ u. Contains (covered_words (id.off + off) len) u) (needed s.view (id.off + off) len) can.each all_covered p e

  module _ (p : Place) (n : IsNew p) where
    abbrev u : ℕ
    u = word_of s.view.fixed.shape p

    r : InRange s at id off len true may.range (word_of s.view.fixed.shape p)
    r = in_range s at id off len true may.range (word_of s.view.fixed.shape p) n.asked

    same_place : p ≡ word_place s.view (block s at id off len true may.range) (index s at id off len true may.range (word_of s.view.fixed.shape p))
    same_place = same_Some p (word_place s.view (block s at id off len true may.range) (index s at id off len true may.range (word_of s.view.fixed.shape p)))
        (sym n.can.word.use_ ∙ (ap (place_in s.view) (sym r.is) ∙ (object_place s.view at.sound (block s at id off len true may.range) (index s at id off len true may.range (word_of s.view.fixed.shape p)) r.word).use_))

    value_known : value_in s.view (word_of s.view.fixed.shape p) ≡ Some n.old
    value_known = sym (known_word_of s at id off len true may.range (word_of s.view.fixed.shape p) n.asked) ∙ n.can.word.present

    data_new : IsDataOf s.view p
    data_new = record {
      off = id.off;
      object = sized s at id off len true may.range;
      found = found s at id off len true may.range;
      index = index s at id off len true may.range (word_of s.view.fixed.shape p);
      at = same_place;
      data_ = r.data_;
      within = r.word.within;
      alive = r.alive;
      value = n.old;
      known = value_known;
      small = n.can.small;
    }

    pictured_so : (b : ℕ) → picture s.view.fixed.shape s.view.claims p b ≡ Some (bit n.old b)
    pictured_so b = cond-true (is_pictured p) _ _ (data_pictured s.view.fixed.shape p n.can.word.plain n.can.word.place) ∙ ap (option_map (λ x. bit x b)) value_known

    seen : (b : ℕ) → sees_at s.view p b ≡ true
    seen b = sees_data s.view (block s at id off len true may.range) p b n.can.word.plain
        (ap (λ q. block_of (geometry s.view.fixed.shape s.view.claims) q 64) same_place ∙ (object_place s.view at.sound (block s at id off len true may.range) (index s at id off len true may.range (word_of s.view.fixed.shape p)) r.word).block)
        (found s at id off len true may.range)

  -- ---- there are slots for them, and the view has these records

  pub unrefused : HasSlots s.view (needed s.view (id.off + off) len) → IsUnrefused s (AddRange id off len)
  unrefused slots = record { looks = looked; none = refusal_so false (false_from_ne_true (nat_lt 64 records_then) (λ t. let l = ltb-true 64 records_then t in let n = many in omega (arith, l, n, slots))) }

  pub snapped : HasSlots s.view (needed s.view (id.off + off) len) → Ready s.view (snapshots (id.off + off) len s.view) × IsSnapshot s.view (needed s.view (id.off + off) len) (after_all s.view (snapshots (id.off + off) len s.view))
  snapped slots = snapshot_lawful s.view (id.off + off) len can slots

  module _ (slots : HasSlots s.view (needed s.view (id.off + off) len)) (w : View) (snap : IsSnapshot s.view (needed s.view (id.off + off) len) w) where
    abbrev ns : List Note
    ns = snap.noted.notes

    abbrev log : Log
    log = record s.view.log { records = s.view.log.records ++ news }

    abbrev n : View
    n = noting s.view snap.noted.notes w.changes w.calls (record s.view.log { records = s.view.log.records ++ news })

    pub noted_so : w ≡ n
    noted_so = snap.same ∙ ap (λ t. record s.view { claims = t; changes = w.changes; calls = w.calls; log = log }) snap.noted.are

    values : (u : ℕ) → IsNoSlot s.view.fixed.shape s.view.fixed.lane u → value_in n u ≡ value_in s.view u
    values u far = sym (ap (λ (y : View). value_in y u) noted_so) ∙ snap.others u far

    pictured_far : (p : Place) → is_pictured p ≡ true → IsNoSlot s.view.fixed.shape s.view.fixed.lane (word_of s.view.fixed.shape p)
    pictured_far (InRun c k) e = let low = at.working.lane in inr (omega (arith, low))
    pictured_far (InHuge c k) e = let low = at.working.lane in inr (omega (arith, low))
    pictured_far (Descr c) e = absurd (both_ways false refl e)
    pictured_far RootWord e = inl (omega arith)

    picture_so : (p : Place) (b : ℕ) → picture n.fixed.shape n.claims p b ≡ picture s.view.fixed.shape s.view.claims p b
    picture_so p b = go (is_pictured p) refl
      where
        go : (c : Bool) → is_pictured p ≡ c → picture n.fixed.shape n.claims p b ≡ picture s.view.fixed.shape s.view.claims p b
        go true e = ap (λ o. cond (is_pictured p) (option_map (λ x. bit x b) o) None) (values (word_of s.view.fixed.shape p) (pictured_far p e))
        go false e = cond-false (is_pictured p) _ None e ∙ sym (cond-false (is_pictured p) _ None e)

    -- sizes are known as they were
    size_far : (line : ℕ) (o : HasObject s.view line) → IsNoSlot s.view.fixed.shape s.view.fixed.lane (8 * header_in s.view.fixed.shape s.view.claims o.block + 1)
    size_far line o =
        let is = size_word s.view at.sound line o in
        let b = data_beyond s.view.fixed.shape (word_place s.view o.block 1) (object_place s.view at.sound o.block 1 is).data_ in
        let e = word_number s.view at.sound o.block 1 is in
        let low = at.working.lane in inr (omega (arith, b, e, low))

    size_same : (at_ : ℕ) → has_line at_ ≡ true → HasObject s.view (line_of at_) → size_seen n at_ ≡ size_seen s.view at_
    size_same at_ line o = values (at_ / 8 - 7) (subst (IsNoSlot s.view.fixed.shape s.view.fixed.lane) number (size_far (line_of at_) o))
      where
        number : 8 * header_in s.view.fixed.shape s.view.claims o.block + 1 ≡ at_ / 8 - 7
        number =
            let t = and_parts (at_ % 64 == 0) (nat_le 128 at_) line in
            let even = eqb-true (at_ % 64) 0 t.0 in
            let high = leb-true 128 at_ t.1 in
            let h = o.at in omega (arith, even, high, h)

    data_far : (p : Place) → is_data p ≡ true → IsNoSlot s.view.fixed.shape s.view.fixed.lane (word_of s.view.fixed.shape p)
    data_far p plain = let b = data_beyond s.view.fixed.shape p plain in let low = at.working.lane in inr (omega (arith, b, low))

    -- ---- what is recorded now

    either : (p : Place) → is_recorded (s.view.log.records ++ news) p ≡ true → (is_recorded s.view.log.records p ≡ true) ⊎ (is_recorded news p ≡ true)
    either p e = given_cases (old_of s.view.log.records p) (old_of news p) (sym (ap given (old_of_both s.view.log.records news p)) ∙ e)

    data_before : (p : Place) → is_recorded (s.view.log.records ++ news) p ≡ true → IsDataOf s.view p
    data_before p e = ⊎_elim (λ (old : is_recorded s.view.log.records p ≡ true). at.recorded p old) (λ (new : is_recorded news p ≡ true). data_new p (new_of p new)) (either p e)

    data_now : (p : Place) → is_recorded (s.view.log.records ++ news) p ≡ true → IsDataOf n p
    data_now p e =
        let d = data_before p e in
        let o : HasObject s.view (line_of d.off) = record { block = d.object.block; found = d.found; at = header_line s.view at.sound d.off d.object d.found; inside = d.object.object.inside } in
        let plain : is_data p ≡ true = ap is_data d.at ∙ (object_place s.view at.sound d.object.block d.index (record { found = d.found; inside = d.object.object.inside; within = d.within; kind = inr d.data_ })).data_ in
        data_so s.view ns w.changes w.calls log snap.noted.each at.working.unmaking at.sound p d (size_same d.off (offset_line s.view at.sound d.off d.object d.found) o ∙ d.object.seen) d.value (values (word_of s.view.fixed.shape p) (data_far p plain) ∙ d.known) d.small

    fit : SizesFit n
    fit B x f o e =
        let old_found : has_found s.view B ≡ true = sym (found_so s.view ns w.changes w.calls log snap.noted.each at.working.unmaking B) ∙ f in
        let line = header_so s.view.fixed.shape ns s.view.claims snap.noted.each at.working.unmaking B in
        let word : value_in n (8 * header_in s.view.fixed.shape s.view.claims B + 1) ≡ Some x = ap (λ h. value_in n (8 * h + 1)) (sym line) ∙ e in
        let own : HasObject s.view (header_in s.view.fixed.shape s.view.claims B) = record { block = B; found = old_found; at = refl; inside = o } in
        subst (λ m. 64 + x ≤ m) (sym (bytes_so s.view ns w.changes w.calls log snap.noted.each at.working.unmaking B))
        (at.sizes B x old_found o (sym (values (8 * header_in s.view.fixed.shape s.view.claims B + 1) (size_far (header_in s.view.fixed.shape s.view.claims B) own)) ∙ word))

    knows_before : (p : Place) (b : ℕ) (y : Bool) → bit_before s.view p b ≡ Some y → bit_before n p b ≡ Some y
    knows_before p b y e = (λ i. first_of_two (option_map (λ x. bit x b) (old_of_both s.view.log.records news p i)) (picture_so p b i))
        ∙ stays_before (λ x. bit x b) (old_of s.view.log.records p) (old_of news p) (picture s.view.fixed.shape s.view.claims p b) y
        (λ x is. let m = new_of p (ap given is) in pictured_so p m b ∙ ap (λ o. option_map (λ z. bit z b) o) (sym m.is ∙ is)) e

    -- ---- bits of recorded words are as they were

    same_bits : SameBits s.view (entries_so_far s) n (entries_so_far s)
    same_bits p b = go (is_recorded news p) refl
      where
        go : (g : Bool) → is_recorded news p ≡ g → (change_so_far n [] p b ≡ change_so_far s.view [] p b) ⊎ ((y : Bool) × (change_so_far s.view [] p b ≡ None) × (change_so_far n [] p b ≡ Some y) × IsAsBefore n p b y)
        go false g = let same : is_recorded (s.view.log.records ++ news) p ≡ is_recorded s.view.log.records p = ap given (old_of_both s.view.log.records news p) ∙ first_alone (old_of s.view.log.records p) (old_of news p) g in
            inl (fresh_is s.view.fixed.shape n.claims log p b ∙ ((λ i. cond (is_data p && same i) (picture_so p b i) None) ∙ sym (fresh_is s.view.fixed.shape s.view.claims s.view.log p b)))
        go true g =
            let m = new_of p g in
            let old : old_of (s.view.log.records ++ news) p ≡ Some m.old = old_of_both s.view.log.records news p ∙ (second_alone (old_of s.view.log.records p) (old_of news p) m.can.word.new ∙ m.is) in
            let now : is_recorded (s.view.log.records ++ news) p ≡ true = ap given old in
            inr (
              bit m.old b,
              fresh_is s.view.fixed.shape s.view.claims s.view.log p b ∙ cond-false (is_data p && is_recorded s.view.log.records p) _ None (and_right (is_data p) (is_recorded s.view.log.records p) m.can.word.new),
              fresh_is s.view.fixed.shape n.claims log p b ∙ (cond-true (is_data p && is_recorded (s.view.log.records ++ news) p) _ None (and_from (is_data p) (is_recorded (s.view.log.records ++ news) p) m.can.word.plain now) ∙ (picture_so p b ∙ pictured_so p m b)),
              record {
                sees = sees_same s.view ns w.changes w.calls log snap.noted.each at.working.unmaking p b ∙ seen p m b;
                recorded = now;
                before = ap (λ o. first_of_two (option_map (λ x. bit x b) o) (picture n.fixed.shape n.claims p b)) old;
              },
            )

    keeps : Keeps s snap.noted.notes w.changes w.calls (record s.view.log { records = s.view.log.records ++ news })
    keeps = record {
      each = snap.noted.each;
      working = subst IsWorking noted_so snap.working;
      unbumped = at.unbumped;
      fit = fit;
      seal = values (word_of_seal s.view.fixed.shape s.view.fixed.lane) (inl (omega arith)) ∙ at.sealed;
      sizes = λ a m. let o = held_object s.view s.locks at.held a.id.off true m.locked in size_same a.id.off o.0 o.1;
      recorded = data_now;
      more = λ p e. ap given (old_of_both s.view.log.records news p) ∙ first_given (old_of s.view.log.records p) (old_of news p) e;
      knows = λ p b y _ e. knows_before p b y e;
      same = same_bits;
    }

    -- ---- and the operation is told

    abbrev t : Told
    t = record { operation = AddRange id off len; reply = None }

    abbrev told_view : View
    told_view = record n { call = s.view.call ++ t ∷ []; actions = s.view.actions; published = s.view.published }

    lists : AreLists (moved s told_view) s.level (lists_of told_view)
    lists = subst (AreLists (moved s told_view) s.level) (sym (told_once_more s.view.call t (idle no_pool (pending_of s.view.entries)))) (record {
      level_is = at.lists.level_is;
      works = at.lists.works;
      locks = at.lists.locks;
      count = at.lists.count;
      recorded = (λ i. at.lists.recorded i ++ cond (none_new s at id.off i) [] (new_words (at.lists.recorded i) (covered_words (id.off + off) len))) ∙ sym (words_recorded s.view (id.off + off) len can.each);
      records = (λ i. at.lists.records i + length (records_of (cond (none_new s at id.off i) [] (new_words (at.lists.recorded i) (covered_words (id.off + off) len))))) ∙ sym (records_more s.view (id.off + off) len);
      blocks = at.lists.blocks;
      pending = at.lists.pending ∙ sym (now_told s.view (AddRange id off len) None (λ p. refl));
      sets = at.lists.sets;
      may_set = all_map (MaySet s) (MaySet (moved s told_view)) (lists_of s.view).sets (λ a m. record { locked = m.locked; aligned = m.aligned; size = m.size; sized = keeps.sizes a m ∙ m.sized; inside = m.inside; small = m.small }) at.lists.may_set;
      error_is = at.lists.error_is;
    })

    abbrev ran : Ran
    ran = record { operation = AddRange id off len; seen = unseen; reply = None }

    grows_told : (kept : Bool) → Grows s.view kept told_view kept
    grows_told kept = growths_compose s.view n told_view kept kept kept (grows s s.level at ns w.changes w.calls log keeps kept) (tells_grow n (AddRange id off len) None kept)

    enters_told : Enters told_view (entries_so_far s)
    enters_told = no_entries told_view (λ p e. let d = data_told n (s.view.call ++ t ∷ []) s.view.actions s.view.published (sound_so s.view ns w.changes w.calls log snap.noted.each at.working.unmaking at.sound) p (data_now p e) in
        (d.object.block, d.index, d.at, d.within, inr (d.found, d.object.object.inside, d.data_)))

    sim : Sim told_view (entries_so_far s)
    sim = sim_extends s.view told_view (entries_so_far s) (entries_so_far s) None ran at.sim (record { keeps = record { fixed = refl; entries = refl }; call = refl }) (inr at.lists.works) grows_told (record {
      leaves = refl;
      looks = (unrefused slots).looks;
      unrefused = (unrefused slots).none;
      replies = refl;
      enters = enters_told;
      there = All-nil _;
      same = λ p b. ⊎_elim (λ (e : change_so_far n [] p b ≡ change_so_far s.view [] p b). inl e)
          (λ (q : (y : Bool) × (change_so_far s.view [] p b ≡ None) × (change_so_far n [] p b ≡ Some y) × IsAsBefore n p b y). inr (q.0, q.1, q.2, record { sees = q.3.sees; recorded = q.3.recorded; before = q.3.before })) (same_bits p b);
    })

    pub stands_told : IsAt (moved s told_view) s.level
    stands_told = told_at s s.level at ns w.changes w.calls log keeps (s.view.call ++ t ∷ []) s.view.actions s.view.published s.level at.some at.most (begun_more s.view.call t at.begun) lists
        (pending_told s.view (AddRange id off len) None (λ p. refl) refl at.pending) sim

    pub stands_after : IsAt (moved s (after w (Tell (AddRange id off len) None))) s.level
    stands_after = subst (λ (y : View). IsAt (moved s y) s.level) (sym (ap (λ (y : View). after y (Tell (AddRange id off len) None)) noted_so)) stands_told

module _ (s : Standing) (id : Oid) (off len : ℕ) where
  -- the view after the plan is that after the snapshot, with the operation told
  pub ends_told : after_all s.view (adds id off len s.view) ≡ after (after_all s.view (snapshots (id.off + off) len s.view)) (Tell (AddRange id off len) None)
  unfolding in_turn one after_all
  ends_told = after_all-append s.view (snapshots (id.off + off) len s.view) (Tell (AddRange id off len) None ∷ [])

  pub ready_told : Ready s.view (snapshots (id.off + off) len s.view) → (after_all s.view (snapshots (id.off + off) len s.view)).log.phase ≡ Open → Ready s.view (adds id off len s.view)
  unfolding in_turn one Ready
  ready_told ready phase = ready_both s.view (snapshots (id.off + off) len s.view) (Tell (AddRange id off len) None ∷ []) ready (phase, tt, tt)

pub ranges_may_be_added : RangesMayBeAdded
ranges_may_be_added s id off len at can_add slots =
    let snap = snapped s at id off len can_add slots in
    let w : View = after_all s.view (snapshots (id.off + off) len s.view) in record {
      unrefused = unrefused s at id off len can_add slots;
      ready = ready_told s id off len snap.0 snap.1.working.is_open;
      stands = subst (λ (y : View). IsAt (moved s y) s.level) (sym (ends_told s id off len)) (stands_after s at id off len can_add slots w snap.1);
    }
