-- The sealed entries of an image that a power failure leaves have no fault, and speak of no word of which another log speaks.
use Rattle.std.proofs.Common.{◌≡◌, ◌≢◌, ◌⊎◌, ⊎_elim, inl, inr, IsTrue, ℕ, ◌+◌, ◌*◌, ◌/◌, ◌<◌, ◌≤◌, ◌&&◌, ◌||◌, Bool, true, false, not, eqb, leb, ltb, List, [], ◌∷◌, length, take, get_or, slice_get, slice_index, Some, None, refl, sym, ◌∙◌, ap, subst, arith, length-append}
use Rattle.std.specs.List.{list_any}
use Rattle.std.specs.Int.Bits.{and_zero_l, and_zero_r}
use Rattle.std.proofs.lemmas.Bool.{and_from, and_right, cases_Bool, cases_eq, cases_lt, cond-false, cond-true, eq-eqb, false≢true, le-leb, le-ltb, ne_eqb, not_from_false, or_left, or_right}
use Rattle.std.proofs.lemmas.List.Elements.{All-weaker}
use Rattle.std.proofs.lemmas.List.Folds.{list_any_none}
use Rattle.std.proofs.lemmas.Option.{get_or_from_slice_get, slice_get-get_or, slice_get_within}
use Rattle.pm_record.specs.declared.redo.Op.TheVariants.{Set}
use Rattle.pm_record.specs.Redo.{redo_of}
use Rattle.pm_record.specs.Undo.{undo_of}
use Rattle.pm_record.specs.declared.redo.Redo.{Redo}
use Rattle.pm_record.specs.declared.undo.Undo.{Undo}
use Rattle.pm_image.specs.HeapFaults.{heap_fault}
use Rattle.pm_image.specs.LogFaults.{bad_entry, bits_of, ends_log, good_entry, in_chunk, in_descriptors, is_target, lane_mask, lanes_clash}
use Rattle.pm_image.specs.Logs.{entries, entry_pair, generation_word, is_sealed, seal_word, slot_line, undo_slot}
use Rattle.pm_image.specs.Steps.{valid_record}
use Rattle.pm_image.proofs.Masks.{any_nowhere, in_common, lane_clashes, mask_of_entries, no_clash_at_end}
use Rattle.pm_image.proofs.Redoing.{entries_unsealed}
use Rattle.solo_view.specs.Area.{area_word, part_of, is_in_area}
use Rattle.solo_view.specs.Area.Part.{EntryWord, SlotWord}
use Rattle.solo_view.specs.Changes.{is_in_line}
use Rattle.solo_view.specs.Log.{Final, Phase}
use Rattle.solo_view.specs.Log.Phase.{Idle, Open, Drawn, Sealing, Applying, Clearing, Retiring}
use Rattle.solo_view.specs.Rights.{is_written}
use Rattle.solo_view.specs.View.{View}
use Rattle.solo_world.specs.Crash.{Survives}
use Rattle.solo_world.specs.Entries.{AreWhole, IsEntryAt, ends_with, final_by, is_entered, redo_on, EntersAlone}
use Rattle.solo_world.specs.Fits.{AppliedChange, ApplyingFits, LaneFits, LogFits, PhaseFits, ReservedChange}
use Rattle.solo_world.specs.History.{Entry, Flies, is_final, settled}
use Rattle.solo_world.specs.Memory.{Memory}
use Rattle.solo_world.specs.Opening.{Opening}
use Rattle.solo_world.specs.Records.{generation_of, is_drained_slot, is_logged, records_generation, used_slots}
use Rattle.solo_world.specs.World.{Views, World}
use Rattle.solo_world.proofs.Plain.{own_area}
use Rattle.solo_world.proofs.CrashEntries.{HasSealed, entries_read, entry_read, generation_sealed, none_of, of_word, redo_again, sealed_generation, whole_of}
use Rattle.solo_world.proofs.CrashLaw.{seal_drained, sealed_still}
use Rattle.solo_world.proofs.CrashLogs.{ChangeFits, SealIs, entered_front, entry_of_word, entry_part, slot_part, whole_word}
use Rattle.solo_world.proofs.CrashRecords.{unsealed}
use Rattle.solo_world.proofs.CrashSpellings.{valid_parts}
use Rattle.solo_world.proofs.CrashWords.{OwnTakenBack, area_left, fits_of, lane_is, logged_behind, reserved_word, seal_is, slot_stays, written_behind, written_under}
use Rattle.solo_world.proofs.Exclusion.{WritesUnder, one_writer}
use Rattle.solo_world.proofs.Slots.{all_stale}
use Rattle.solo_world.proofs.StoreEntry.{entered_early, entered_owned}
use Rattle.solo_world.proofs.StoreSlot.{get-push_cases}
use Rattle.solo_crash.proofs.Guarded.{guarded_in_chunk}
use Rattle.solo_crash.proofs.LogCourse.{InRange}
use Rattle.pm_record.specs.declared.redo.Op.{Op}

-- what the image has for the lane's generation word, by how far its call has come
abbrev pub WordIs : View → ℕ → Phase → Type 0
WordIs v word Retiring = (word ≡ generation_of v) ⊎ (word + 1 ≡ generation_of v)
WordIs v word (Applying applied) = (word ≡ generation_of v) ⊎ ((applied ≡ length v.log.entries) × (word + 1 ≡ generation_of v))
WordIs v word phase = word ≡ generation_of v

as_view : (v : View) (word : ℕ) (phase : Phase) → word ≡ generation_of v → WordIs v word phase
as_view v word Idle same = same
as_view v word (Open slot pair) same = same
as_view v word Drawn same = same
as_view v word Sealing same = same
as_view v word (Applying applied) same = inl same
as_view v word Clearing same = same
as_view v word Retiring same = inl same

-- the generation that the last entry sets can follow the image's word
pub record Follows (word g : ℕ) : Type 0 where
  pub first : 2 ≤ g
  pub last : g ≤ 4611686018427387904
  pub from : (word ≡ g) ⊎ (word + 1 ≡ g)

is_some_entry : List Redo → Bool
is_some_entry [] = false
is_some_entry (e ∷ es) = true

empty_or_not : (es : List Redo) → (es ≡ []) ⊎ (es ≡ [] → ⊥)
unfolding is_some_entry
empty_or_not [] = inl refl
empty_or_not (e ∷ es) = inr (λ none. false≢true (ap is_some_entry (sym none)))

module _ (o : Opening) (mem : Memory) (views : Views) (log : List Entry) (decided : ℕ → Bool) (x : World o mem views log decided) (image : List ℕ) (survives : Survives o mem views image)
    (ranges : (j : ℕ) → j < o.lanes → InRange (generation_of (views j)) (views j) (views j).log.phase) (none : heap_fault (slice_index o.words) o.lanes o.zones ≡ None) where
  fits : (j : ℕ) → j < o.lanes → LaneFits o mem (settled o log decided) (Flies log decided j) j (views j)
  fits j inside = x.each_lane j inside

  -- the image has no seal of the lane, or all its entries sealed
  sealed_or_none : (j : ℕ) → j < o.lanes → (seal_word image j ≡ 0) ⊎ (HasSealed (views j).log.phase × (seal_word image j ≡ length (views j).log.entries))
  sealed_or_none j inside = by_phase (views j).log.phase (seal_is o mem views log decided x image survives j inside) where
    by_phase : (phase : Phase) → SealIs (views j) (seal_word image j) phase → (seal_word image j ≡ 0) ⊎ (HasSealed phase × (seal_word image j ≡ length (views j).log.entries))
    by_phase Idle seal = inl seal
    by_phase (Open slot pair) seal = inl seal
    by_phase Drawn seal = inl seal
    by_phase Sealing (inl full) = inr (tt, full)
    by_phase Sealing (inr empty) = inl empty
    by_phase (Applying applied) seal = inr (tt, seal)
    by_phase Clearing (inl full) = inr (tt, full)
    by_phase Clearing (inr empty) = inl empty
    by_phase Retiring seal = inl seal

  pub seal_few : (j : ℕ) → j < o.lanes → seal_word image j ≤ 64
  seal_few j inside = ⊎_elim (λ (empty : seal_word image j ≡ 0). omega (arith, empty))
      (λ (sealed : HasSealed (views j).log.phase × (seal_word image j ≡ length (views j).log.entries)). let full = sealed.1 in let most = (fits j inside).entries.most in omega (arith, full, most))
      (sealed_or_none j inside)

  -- no undrained change is of the generation while an entry is to come
  all_applied : (j applied u : ℕ) → j < o.lanes → AreWhole (views j) (records_generation (Applying applied) (views j)) → applied ≤ length (views j).log.entries → u ≡ area_word j
      → is_entered (take applied (views j).log.entries) u ≡ true → applied ≡ length (views j).log.entries
  all_applied j applied u inside whole most here there =
      let v : View = views j in
      let last : List Final = ends_with v (records_generation (Applying applied) v) ∷ [] in
      let size : length v.log.entries ≡ length whole.front + 1 = ap length whole.are ∙ length-append whole.front last in
      ⊎_elim (λ (low : applied < length v.log.entries).
      let early = entered_early applied whole.front last u (omega (arith, size, low)) (ap (λ fs. is_entered (take applied fs) u) (sym whole.are) ∙ there) in
      let behind = written_behind o mem views log decided x j u inside (entered_owned v whole.front u whole.owned early) in absurd (omega arith))
      (λ (high : length v.log.entries ≤ applied). omega (arith, most, high))
      (cases_lt applied (length v.log.entries))

  before : (j : ℕ) → (inside : j < o.lanes) → (t : OwnTakenBack (views j) image (area_word j)) → (phase : Phase) → PhaseFits (Flies log decided j) (views j) phase → ChangeFits (views j) t.change phase
      → WordIs (views j) (generation_word image j) phase
  before j inside t Idle fit change =
      let is = t.of_word in let at = lane_is o mem views log decided x j inside in
      let behind = (reserved_word o mem views log decided x j t.change.word inside change.may.reserved).behind in absurd (omega arith)
  before j inside t (Open slot pair) fit change =
      let is = t.of_word in let at = lane_is o mem views log decided x j inside in
      ⊎_elim (λ (part : part_of (views j).lane t.change.word ≡ SlotWord). let s = slot_part (views j).lane t.change.word part in let low = s.low in absurd (omega arith))
      (λ (other : (part_of (views j).lane t.change.word ≡ EntryWord) ⊎ ((is_logged (views j) t.change.word ≡ true) ⊎ ReservedChange (views j) t.change)).
      ⊎_elim (λ (part : part_of (views j).lane t.change.word ≡ EntryWord). let s = entry_part (views j).lane t.change.word part in let low = s.low in absurd (omega arith))
      (λ (last : (is_logged (views j) t.change.word ≡ true) ⊎ ReservedChange (views j) t.change).
      ⊎_elim (λ (logged : is_logged (views j) t.change.word ≡ true). let behind = logged_behind o mem views log decided x j t.change.word inside logged in absurd (omega arith))
      (λ (own : ReservedChange (views j) t.change). let behind = (reserved_word o mem views log decided x j t.change.word inside own.reserved).behind in absurd (omega arith)) last) other)
      change.of
  before j inside t Drawn fit change = absurd change
  before j inside t Sealing fit change = let is = t.of_word in let at = lane_is o mem views log decided x j inside in let of = change.of in absurd (omega arith)
  before j inside t (Applying applied) fit change =
      let at = lane_is o mem views log decided x j inside in
      inr (all_applied j applied t.change.word inside change.1 fit.most t.of_word change.0.of, ap (λ n. n + 1) t.is_old ∙ (change.0.next (t.of_word ∙ ap area_word (sym at))).1)
  before j inside t Clearing fit change = let is = t.of_word in let at = lane_is o mem views log decided x j inside in let of = change.of in absurd (omega arith)
  before j inside t Retiring fit change = inr (ap (λ n. n + 1) t.is_old ∙ change.before)

  word_is : (j : ℕ) → j < o.lanes → WordIs (views j) (generation_word image j) (views j).log.phase
  word_is j inside =
      ⊎_elim (λ (same : slice_index image (area_word j) ≡ slice_index (views j).words (area_word j)).
      as_view (views j) (generation_word image j) (views j).log.phase (same ∙ ap (λ n. slice_index (views j).words (area_word n)) (sym (lane_is o mem views log decided x j inside))))
      (λ (t : OwnTakenBack (views j) image (area_word j)). before j inside t (views j).log.phase (fits j inside).phase (fits_of o mem views log decided x j t.change inside t.there))
      (area_left o mem views log decided x image survives j (area_word j) inside (omega arith) (omega arith))

  -- a lane's generation word is in range
  pub word_in_range : (j : ℕ) → j < o.lanes → (1 ≤ generation_word image j) × (generation_word image j ≤ 4611686018427387904)
  word_in_range j inside = by_phase (views j).log.phase (word_is j inside) (ranges j inside) where
    by_phase : (phase : Phase) → WordIs (views j) (generation_word image j) phase → InRange (generation_of (views j)) (views j) phase → (1 ≤ generation_word image j) × (generation_word image j ≤ 4611686018427387904)
    by_phase Idle is range = let first = (fits j inside).first_generation in let last = (fits j inside).last_generation in (omega arith, omega arith)
    by_phase (Open slot pair) is range = let first = (fits j inside).first_generation in let last = (fits j inside).last_generation in (omega arith, omega arith)
    by_phase Drawn is range = let first = (fits j inside).first_generation in let last = (fits j inside).last_generation in (omega arith, omega arith)
    by_phase Sealing is range = let first = (fits j inside).first_generation in let last = (fits j inside).last_generation in (omega arith, omega arith)
    by_phase (Applying applied) is range = let first = (fits j inside).first_generation in let last = (fits j inside).last_generation in
        ⊎_elim (λ (same : generation_word image j ≡ generation_of (views j)). (omega arith, omega arith))
        (λ (t : (applied ≡ length (views j).log.entries) × (generation_word image j + 1 ≡ generation_of (views j))). let next = t.1 in let some = range t.0 in (omega (arith, next, some), omega (arith, next, last))) is
    by_phase Clearing is range = let first = (fits j inside).first_generation in let last = (fits j inside).last_generation in (omega arith, omega arith)
    by_phase Retiring is range = let first = (fits j inside).first_generation in let last = (fits j inside).last_generation in
        ⊎_elim (λ (same : generation_word image j ≡ generation_of (views j)). (omega arith, omega arith))
        (λ (next : generation_word image j + 1 ≡ generation_of (views j)). (omega (arith, next, range), omega (arith, next, last))) is

  follows : (j : ℕ) → j < o.lanes → HasSealed (views j).log.phase → Follows (generation_word image j) (sealed_generation (views j).log.phase (views j))
  follows j inside sealed = by_phase (views j).log.phase sealed (word_is j inside) (ranges j inside) (fits j inside).phase where
    by_phase : (phase : Phase) → HasSealed phase → WordIs (views j) (generation_word image j) phase → InRange (generation_of (views j)) (views j) phase → PhaseFits (Flies log decided j) (views j) phase
        → Follows (generation_word image j) (sealed_generation phase (views j))
    by_phase Idle sealed is range fit = absurd sealed
    by_phase (Open slot pair) sealed is range fit = absurd sealed
    by_phase Drawn sealed is range fit = absurd sealed
    by_phase Sealing sealed is range fit = let first = (fits j inside).first_generation in let below = fit.below in record { first = omega arith; last = omega arith; from = inr (omega arith) }
    by_phase (Applying applied) sealed is range fit =
        let v : View = views j in
        let first = (fits j inside).first_generation in
        ⊎_elim (λ (all : applied ≡ length v.log.entries).
        let g : records_generation (Applying applied) v ≡ generation_of v = cond-true _ (generation_of v) (generation_of v + 1) (eq-eqb applied (length v.log.entries) all) in
        subst (Follows (generation_word image j)) (sym g)
        (record { first = range all; last = (fits j inside).last_generation; from = ⊎_elim (λ (same : generation_word image j ≡ generation_of v). inl same) (λ (t : (applied ≡ length v.log.entries) × (generation_word image j + 1 ≡ generation_of v)). inr t.1) is }))
        (λ (more : applied ≢ length v.log.entries).
        let g : records_generation (Applying applied) v ≡ generation_of v + 1 = cond-false _ (generation_of v) (generation_of v + 1) (ne_eqb applied (length v.log.entries) more) in
        let last = fit.last in
        subst (Follows (generation_word image j)) (sym g)
        (record {
          first = omega (arith, first);
          last = omega (arith, last, g);
          from = inr (⊎_elim (λ (same : generation_word image j ≡ generation_of v). ap (λ n. n + 1) same) (λ (t : (applied ≡ length v.log.entries) × (generation_word image j + 1 ≡ generation_of v)). absurd (more t.0)) is);
        }))
        (cases_eq applied (length v.log.entries))
    by_phase Clearing sealed is range fit = record { first = range; last = (fits j inside).last_generation; from = inl is }
    by_phase Retiring sealed is range fit = absurd sealed

  -- the last entry ends the log
  ends_good : (j word : ℕ) → word ≡ area_word j → (g : ℕ) → Follows (generation_word image j) g → ends_log image j (redo_on Set word g) ≡ true
  ends_good j word here g is =
      and_from (eqb (8 * word) (8 * area_word j) && leb 2 g && leb g 4611686018427387904) (eqb (generation_word image j) g || eqb (generation_word image j + 1) g)
      (and_from (eqb (8 * word) (8 * area_word j) && leb 2 g) (leb g 4611686018427387904)
      (and_from (eqb (8 * word) (8 * area_word j)) (leb 2 g) (eq-eqb (8 * word) (8 * area_word j) (ap (λ n. 8 * n) here)) (le-leb 2 g is.first))
      (le-leb g 4611686018427387904 is.last))
      (⊎_elim (λ (same : generation_word image j ≡ g). or_left (eqb (generation_word image j) g) (eqb (generation_word image j + 1) g) (eq-eqb (generation_word image j) g same))
      (λ (next : generation_word image j + 1 ≡ g). or_right (eqb (generation_word image j) g) (eqb (generation_word image j + 1) g) (eq-eqb (generation_word image j + 1) g next)) is.from)

  -- while entries are applied, no slot has a change
  applied_drained : (j slot applied : ℕ) → j < o.lanes → slot < 64 → ApplyingFits (views j) applied → is_drained_slot (views j) slot ≡ true
  applied_drained j slot applied inside within fit =
      let v : View = views j in
      let lane = lane_is o mem views log decided x j inside in
      not_from_false (list_any (is_in_line (slot_line v.lane slot)) v.changes)
      (list_any_none (is_in_line (slot_line v.lane slot)) v.changes
      (All-weaker (AppliedChange v applied) (λ c. is_in_line (slot_line v.lane slot) c ≡ false) (λ c of. ne_eqb (c.word / 8) (slot_line v.lane slot) (λ same. ⊎_elim
      (λ (own : is_written v c.word ≡ true). let far = written_behind o mem views log decided x j c.word inside own in omega (arith, same, far, lane, inside, within))
      (λ (own : c.word ≡ area_word v.lane). omega (arith, same, own, lane))
      (whole_word v (records_generation (Applying applied) v) c.word fit.whole (entered_front applied v.log.entries c.word of.of)))) v.changes fit.changes))

  -- nor from the store of the seal on
  pub drained : (j slot : ℕ) (phase : Phase) → j < o.lanes → slot < 64 → HasSealed phase → PhaseFits (Flies log decided j) (views j) phase → is_drained_slot (views j) slot ≡ true
  drained j slot Idle inside within is fit = absurd is
  drained j slot (Open words pair) inside within is fit = absurd is
  drained j slot Drawn inside within is fit = absurd is
  drained j slot Sealing inside within is fit = seal_drained (views j) 0 slot fit.changes
  drained j slot (Applying applied) inside within is fit = applied_drained j slot applied inside within fit
  drained j slot Clearing inside within is fit = seal_drained (views j) (length (views j).log.entries) slot fit.changes
  drained j slot Retiring inside within is fit = absurd is

  module _ (j : ℕ) (inside : j < o.lanes) (sealed : HasSealed (views j).log.phase) (full : seal_word image j ≡ length (views j).log.entries) where
    whole : AreWhole (views j) (sealed_generation (views j).log.phase (views j))
    whole = whole_of o mem views log decided x j (views j).log.phase sealed (fits j inside).phase

    -- the last entry sets the generation
    ends_by : (i : ℕ) (f : Final) (at : IsEntryAt (views j) i f) → f ≡ ends_with (views j) (sealed_generation (views j).log.phase (views j))
        → redo_on ((x.each_lane j inside).entries.each i f at).op f.word ((x.each_lane j inside).entries.each i f at).value ≡ redo_on Set (area_word (views j).lane) (sealed_generation (views j).log.phase (views j))
    ends_by i f at is =
        let v : View = views j in
        let g : ℕ = sealed_generation v.log.phase v in
        let s = (x.each_lane j inside).entries.each i f at in
        let word : f.word ≡ area_word v.lane = ap (λ (h : Final). h.word) is in
        let sets : s.op ≡ Set = ⊎_elim
        (λ (own : is_written v f.word ≡ true). let far = written_behind o mem views log decided x j f.word inside own in let lane = lane_is o mem views log decided x j inside in absurd (omega (arith, far, word, lane, inside)))
        (λ other. ⊎_elim (λ (own : (f.word ≡ area_word v.lane) × (s.op ≡ Set)). own.1) (λ (alone : EntersAlone v f.word). absurd (false≢true (sym alone.2 ∙ (ap (is_in_area v.lane) word ∙ own_area v.lane)))) other) s.may.of in
        let value : s.value ≡ g = sym (ap (λ (h : Final). h.bits) (sym is ∙ (s.is ∙ ap (λ (op : Op). final_by op f.word s.value) sets))) in
        λ n. redo_on (sets n) (word n) (value n)

    -- a sealed entry is one that a log may have
    entry_good : (i : ℕ) → i < seal_word image j → good_entry image o.lanes o.zones j i (redo_of (entry_pair image j i)) ≡ true
    entry_good i low =
        let v : View = views j in
        let g : ℕ = sealed_generation v.log.phase v in
        let few = seal_few j inside in
        let d : Final = ends_with v g in
        let f : Final = get_or v.log.entries i d in
        let at : IsEntryAt v i f = slice_get-get_or v.log.entries i d (omega (arith, low, full)) in
        let size : length v.log.entries ≡ length whole.front + 1 = ap length whole.are ∙ length-append whole.front (d ∷ []) in
        let s = (x.each_lane j inside).entries.each i f at in
        let read : redo_of (entry_pair image j i) ≡ Some (redo_on s.op f.word s.value) = ap redo_of (entry_read o mem views log decided x image survives j i f inside sealed (omega (arith, low, few)) at) ∙ redo_again s.op f.word s.value in
        ap (good_entry image o.lanes o.zones j i) read
        ∙ ⊎_elim
        (λ (there : slice_get whole.front i ≡ Some f).
        let early = slice_get_within whole.front i f there in
        let own : IsTrue (is_written v f.word) = subst (λ (h : Final). IsTrue (is_written v h.word)) (get_or_from_slice_get whole.front i f f there) (whole.owned i f early) in
        let t = written_under o mem views log decided x j f.word inside own in
        let place : 8 * f.word / 8 ≡ f.word = omega arith in
        cond-false _ (ends_log image j (redo_on s.op f.word s.value)) (is_target o.lanes o.zones (8 * f.word / 8)) (ne_eqb (i + 1) (seal_word image j) (λ same. omega (arith, same, full, size, early)))
        ∙ (ap (is_target o.lanes o.zones) place
        ∙ or_right (eqb f.word 64 || in_descriptors o.lanes o.zones f.word) (in_chunk o.lanes o.zones f.word) (guarded_in_chunk o none x.sound.size t.0 f.word t.1)))
        (λ (t : (i ≡ length whole.front) × (d ≡ f)).
        let last = t.0 in
        cond-true _ (ends_log image j (redo_on s.op f.word s.value)) (is_target o.lanes o.zones (8 * f.word / 8)) (eq-eqb (i + 1) (seal_word image j) (omega (arith, last, full, size)))
        ∙ (ap (ends_log image j) (ends_by i f at (sym t.1)) ∙ ends_good j (area_word v.lane) (ap area_word (lane_is o mem views log decided x j inside)) g (follows j inside sealed)))
        (get-push_cases whole.front d i f (ap (λ fs. slice_get fs i) (sym whole.are) ∙ at))

    -- its slots are of earlier generations
    older : (slot : ℕ) (u : Undo) (phase : Phase) → slot < 64 → HasSealed phase → (views j).log.phase ≡ phase → PhaseFits (Flies log decided j) (views j) phase → undo_of (undo_slot (views j).words (views j).lane slot) ≡ Some u
        → u.generation < sealed_generation phase (views j)
    older slot u Idle within is at fit there = absurd is
    older slot u (Open words pair) within is at fit there = absurd is
    older slot u Drawn within is at fit there = absurd is
    older slot u Sealing within is at fit there =
        let before : LogFits (settled o log decided) (views j) (generation_of (views j)) = subst (λ p. LogFits (settled o log decided) (views j) (records_generation p (views j))) at (fits j inside).log in
        let stale = all_stale (settled o log decided) (views j) (generation_of (views j)) before (ap (λ p. used_slots p (views j)) at) slot u within there in omega (arith, stale)
    older slot u (Applying applied) within is at fit there =
        let before : LogFits (settled o log decided) (views j) (records_generation (Applying applied) (views j)) = subst (λ p. LogFits (settled o log decided) (views j) (records_generation p (views j))) at (fits j inside).log in
        before.stale slot u (let nothing : length (views j).log.records ≡ 0 = ap length fit.no_records in subst (λ p. used_slots p (views j) ≤ slot) (sym at) (omega (arith, nothing))) within there
    older slot u Clearing within is at fit there =
        let before : LogFits (settled o log decided) (views j) (generation_of (views j)) = subst (λ p. LogFits (settled o log decided) (views j) (records_generation p (views j))) at (fits j inside).log in
        before.stale slot u (let nothing : length (views j).log.records ≡ 0 = ap length fit.no_records in subst (λ p. used_slots p (views j) ≤ slot) (sym at) (omega (arith, nothing))) within there
    older slot u Retiring within is at fit there = absurd is

    none_valid : (slot : ℕ) (u : Undo) → slot < 64 → valid_record image j slot ≡ Some u → ⊥
    none_valid slot u within valid =
        let p = valid_parts image j slot u valid in
        let stays = slot_stays o mem views log decided x image survives j slot inside within (drained j slot (views j).log.phase inside within sealed (fits j inside).phase) in
        let before = older slot u (views j).log.phase within sealed refl (fits j inside).phase (ap undo_of (sym stays) ∙ p.stands) in
        let now = p.present ∙ generation_sealed o mem views log decided x image survives j inside sealed full in omega (arith, before, now)

  -- no entry has a fault
  pub entry_passes : (j i : ℕ) → j < o.lanes → bad_entry image o.lanes o.zones j i ≡ false
  entry_passes j i inside =
      ⊎_elim (λ (empty : seal_word image j ≡ 0).
      ap (λ (b : Bool). b && ltb i (seal_word image j) && not (good_entry image o.lanes o.zones j i (redo_of (entry_pair image j i)))) (unsealed image j empty))
      (λ (sealed : HasSealed (views j).log.phase × (seal_word image j ≡ length (views j).log.entries)).
      ⊎_elim (λ (low : i < seal_word image j).
      and_right (is_sealed image j && ltb i (seal_word image j)) (not (good_entry image o.lanes o.zones j i (redo_of (entry_pair image j i)))) (ap not (entry_good j inside sealed.0 sealed.1 i low)))
      (λ (high : seal_word image j ≤ i).
      ap (λ (b : Bool). b && not (good_entry image o.lanes o.zones j i (redo_of (entry_pair image j i)))) (and_right (is_sealed image j) (ltb i (seal_word image j)) (le-ltb i (seal_word image j) high)))
      (cases_lt i (seal_word image j)))
      (sealed_or_none j inside)

  -- the lane has a sealed entry of the word: it writes it, or it is its generation; and no slot of it is valid
  pub record Enters (j i : ℕ) : Type 0 where
    pub writes : WritesUnder o mem j i ⊎ (i ≡ area_word j)
    pub no_slot : (slot : ℕ) (u : Undo) → slot < 64 → valid_record image j slot ≡ Some u → ⊥

  pub enters : (j i : ℕ) → j < o.lanes → (of_word i (entries image j) ≡ [] → ⊥) → Enters j i
  enters j i inside some =
      ⊎_elim (λ (empty : seal_word image j ≡ 0). absurd (some (ap (of_word i) (entries_unsealed image j (unsealed image j empty)))))
      (λ (sealed : HasSealed (views j).log.phase × (seal_word image j ≡ length (views j).log.entries)).
      let are = entries_read o mem views log decided x image survives j inside sealed.0 sealed.1 in
      let final : is_final (views j).log.entries i ≡ true = ⊎_elim (λ (yes_ : is_final (views j).log.entries i ≡ true). yes_) (λ (no_ : is_final (views j).log.entries i ≡ false). absurd (some (ap (of_word i) are.2 ∙ none_of (views j).log.entries are.0 i are.1 no_)))
      (cases_Bool (is_final (views j).log.entries i)) in
      let t = entry_of_word (views j).log.entries i final in
      record {
        writes = ⊎_elim (λ (own : is_written (views j) t.held.word ≡ true). inl (written_under o mem views log decided x j i inside (subst (λ u. is_written (views j) u ≡ true) t.of own)))
            (λ other. ⊎_elim (λ (own : (t.held.word ≡ area_word (views j).lane) × (((fits j inside).entries.each t.place t.held t.at).op ≡ Set)). inr (sym t.of ∙ (own.0 ∙ ap area_word (lane_is o mem views log decided x j inside))))
            (λ (alone : EntersAlone (views j) t.held.word). absurd (sealed_still (views j).log.phase sealed.0 alone.1)) other)
            ((fits j inside).entries.each t.place t.held t.at).may.of;
        no_slot = none_valid j inside sealed.0 sealed.1;
      })
      (sealed_or_none j inside)

  -- one lane at most has
  one_enters : (j k i : ℕ) → j < o.lanes → k < o.lanes → Enters j i → Enters k i → j ≡ k
  one_enters j k i inside other_inside a b =
      ⊎_elim (λ (one : WritesUnder o mem j i). ⊎_elim (λ (two : WritesUnder o mem k i). one_writer o mem j k i x.sound one two)
      (λ (two : i ≡ area_word k). let behind = x.sound.behind_areas one.0 i one.1 in absurd (omega arith)) b.writes)
      (λ (one : i ≡ area_word j). ⊎_elim (λ (two : WritesUnder o mem k i). let behind = x.sound.behind_areas two.0 i two.1 in absurd (omega arith))
      (λ (two : i ≡ area_word k). omega arith) b.writes)
      a.writes

  no_mask : (j i : ℕ) → of_word i (entries image j) ≡ [] → lane_mask image (8 * i) j ≡ 0
  no_mask j i empty = sym (mask_of_entries image (8 * i) j (entries image j) refl) ∙ ap bits_of empty

  pub no_lanes_clash : (i : ℕ) → lanes_clash image o.lanes (8 * i) ≡ false
  no_lanes_clash i = no_clash_at_end image o.lanes (8 * i) o.lanes refl
      (any_nowhere (lane_clashes image (8 * i)) o.lanes (λ k inside. any_nowhere (λ j. in_common (lane_mask image (8 * i) j) (lane_mask image (8 * i) k)) k (λ j near. apart j k near inside)))
    where
      apart : (j k : ℕ) → j < k → k < o.lanes → in_common (lane_mask image (8 * i) j) (lane_mask image (8 * i) k) ≡ false
      apart j k near inside =
          ⊎_elim (λ (empty : of_word i (entries image j) ≡ []). ap (λ n. in_common n (lane_mask image (8 * i) k)) (no_mask j i empty) ∙ ap (λ n. not (eqb n 0)) (and_zero_l (lane_mask image (8 * i) k)))
          (λ (some : of_word i (entries image j) ≡ [] → ⊥).
          ⊎_elim (λ (empty : of_word i (entries image k) ≡ []). ap (in_common (lane_mask image (8 * i) j)) (no_mask k i empty) ∙ ap (λ n. not (eqb n 0)) (and_zero_r (lane_mask image (8 * i) j)))
          (λ (other : of_word i (entries image k) ≡ [] → ⊥). let same = one_enters j k i (omega arith) inside (enters j i (omega arith) some) (enters k i inside other) in absurd (omega arith))
          (empty_or_not (of_word i (entries image k))))
          (empty_or_not (of_word i (entries image j)))
