-- The logs of an image that a power failure leaves have no fault.
use Rattle.std.proofs.Common.{◌≡◌, ◌≢◌, ◌⊎◌, ⊎_elim, inl, inr, ℕ, ◌+◌, ◌-◌, ◌*◌, ◌/◌, ◌%◌, ◌<◌, ◌≤◌, ◌&&◌, ◌||◌, Bool, true, false, not, eqb, leb, ltb, IsTrue, List, [], ◌∷◌, get_or, length, slice_get, slice_index, Option, Some, None, refl, sym, ◌∙◌, ap, subst, arith}
use Rattle.std.specs.List.{Contains, flat_map, list_all, list_any, range_with_len}
use Rattle.std.specs.Option.{option_map_or}
use Rattle.std.proofs.lemmas.Bool.{and_from, and_parts, and_right, cases_Bool, cases_lt, eq-eqb, eqb-true, false≢true, le-leb, le-ltb, leb-true, lt-ltb, ltb-true, ne_eqb, not_from_true, or_from}
use Rattle.std.proofs.lemmas.List.Folds.{Any-from_list_any}
use Rattle.std.proofs.lemmas.Option.{none-some, same_Some, slice_get-get_or, slice_get_within}
use Rattle.pm_record.specs.Undo.{undo_of}
use Rattle.pm_record.specs.declared.redo.Redo.{Redo}
use Rattle.pm_record.specs.declared.undo.Undo.{Undo}
use Rattle.pm_image.specs.HeapFaults.{heap_fault}
use Rattle.pm_image.specs.LogFaults.{bad_entry, bad_slot, clashes, good_lane, good_record, in_chunk, lanes_clash, log_fault, records_for}
use Rattle.pm_image.specs.Logs as logs
use Rattle.pm_image.specs.Logs.{entries, entries_for, generation, generation_word, records, seal_word, slot_line, undo_slot}
use Rattle.pm_image.specs.Steps.{valid_record}
use Rattle.pm_image.proofs.Firsts.{none_passes}
use Rattle.pm_image.proofs.Gathering.{record_at, records_by_number}
use Rattle.pm_image.proofs.LogRows.{clash_row}
use Rattle.solo_view.specs.declared.change.Change.{Change}
use Rattle.solo_view.specs.Area.{area_word}
use Rattle.solo_view.specs.Changes.{is_in_line}
use Rattle.solo_view.specs.Log.{Final, Phase, Recorded}
use Rattle.solo_view.specs.Log.Phase.{Idle, Open, Drawn, Sealing, Applying, Clearing, Retiring}
use Rattle.solo_view.specs.Rights.{is_written}
use Rattle.solo_view.specs.View.{View}
use Rattle.solo_world.specs.Crash.{IsBeingWritten, IsWhole, NoneTorn, Survives}
use Rattle.solo_world.specs.Fits.{LaneFits, PhaseFits}
use Rattle.solo_world.specs.History.{Entry, Flies, settled}
use Rattle.solo_world.specs.Lawful.{CanRecord, CanRecordWord, generation_limit}
use Rattle.solo_world.specs.Memory.{Memory}
use Rattle.solo_world.specs.Memory.Location.{PoolWord}
use Rattle.solo_world.specs.Opening.{Opening}
use Rattle.solo_world.specs.Records.{IsRecordAt, covers, generation_of, is_drained_slot, records_generation, spelled, used_slots}
use Rattle.solo_world.specs.World.{Views, World}
use Rattle.solo_world.proofs.Filled.{filled_behind, filled_slot}
use Rattle.solo_world.proofs.CrashEntries.{HasSealed, generation_is}
use Rattle.solo_world.proofs.CrashLogs.{ChangeFits, GenerationIs, change_fits, drained_slot, recorded_from, recorded_word}
use Rattle.solo_world.proofs.CrashSpellings.{covers_back, undo_from, undo_of-spelled, valid_parts}
use Rattle.solo_world.proofs.CrashSays.{no_slot_change}
use Rattle.solo_world.proofs.CrashWords.{slot_stays}
use Rattle.solo_world.proofs.Exclusion.{WritesUnder, one_writer, writes_under}
use Rattle.solo_crash.proofs.AtMostOne.{all_pass, at_most_one, one_or_none, passing, passing_one, some_part}
use Rattle.solo_crash.proofs.Guarded.{guarded_in_chunk}
use Rattle.solo_crash.proofs.ImageEntries.{drained, entry_passes, enters, no_lanes_clash, seal_few, word_in_range}
use Rattle.solo_crash.proofs.LogCourse.{SlotsFit, InRange, IsUnwritten}
use Rattle.solo_crash.proofs.LogCourse as course

generation_from : (v : View) (seal g : ℕ) (phase : Phase) → 1 ≤ generation_of v → GenerationIs v seal g phase → records_generation phase v ≤ g
generation_from v seal g Idle first is = omega arith
generation_from v seal g (Open slot pair) first is = omega arith
generation_from v seal g Drawn first is = omega arith
generation_from v seal g Sealing first is =
    ⊎_elim (λ (lost : (seal ≡ 0) × (g ≡ generation_of v)). let same = lost.1 in omega arith) (λ (kept : (seal ≢ 0) × (g ≡ generation_of v + 1)). let next = kept.1 in omega arith) is
generation_from v seal g (Applying applied) first is = omega arith
generation_from v seal g Clearing first is = omega arith
generation_from v seal g Retiring first is = ⊎_elim (λ (same : g ≡ generation_of v). omega arith) (λ (before : g + 1 ≡ generation_of v). omega arith) is

used_upto : (v : View) (phase : Phase) → used_slots phase v ≤ length v.log.records + 1
used_upto v Idle = omega arith
used_upto v (Open [] pair) = omega arith
used_upto v (Open (x ∷ slot) pair) = omega arith
used_upto v Drawn = omega arith
used_upto v Sealing = omega arith
used_upto v (Applying applied) = omega arith
used_upto v Clearing = omega arith
used_upto v Retiring = omega arith

-- a slot of a change is that of a record, or the next one
undrained_upto : (flies : ℕ → List Final → Type 0) (v : View) (c : Change) (slot : ℕ) (phase : Phase) → v.lane < v.lanes → (HasSealed phase → is_drained_slot v slot ≡ true) → PhaseFits flies v phase → ChangeFits v c phase → InRange (generation_of v) v phase → Contains v.changes c → slot < 64
    → c.word / 8 ≡ slot_line v.lane slot → slot ≤ length v.log.records
undrained_upto flies v c slot Idle inside drained fits change range there within line = let behind = filled_behind v c change in absurd (omega (arith, behind, line, within, inside))
undrained_upto flies v c slot (Open words pair) inside drained fits change range there within line =
    let short = fits.short in
    let bound = range.1 c there (record { low = omega (arith, line); high = omega (arith, line, within) }) in
    omega (arith, short, bound, line)
undrained_upto flies v c slot Drawn inside drained fits change range there within line = absurd change
undrained_upto flies v c slot Sealing inside drained fits change range there within line = absurd (drained_slot v slot c (drained tt) there line)
undrained_upto flies v c slot (Applying applied) inside drained fits change range there within line = absurd (drained_slot v slot c (drained tt) there line)
undrained_upto flies v c slot Clearing inside drained fits change range there within line = absurd (drained_slot v slot c (drained tt) there line)
undrained_upto flies v c slot Retiring inside drained fits change range there within line = let of = change.of in absurd (omega (arith, of, line))

no_record : (v : View) (slot : ℕ) (r : Recorded) → v.log.records ≡ [] → IsRecordAt v slot r → ⊥
no_record v slot r none at = none-some r (sym (ap (λ records. slice_get records slot) none) ∙ at)

-- the record is the slot's, or the next one, which is being written
abbrev Stored : View → ℕ → Recorded → Type 0
Stored v slot r = IsRecordAt v slot r ⊎ ((slot ≡ length v.log.records) × CanRecord v r × IsBeingWritten v slot)

no_slot : (v : View) (slot : ℕ) (r : Recorded) → v.log.records ≡ [] → is_drained_slot v slot ≡ true → used_slots v.log.phase v ≡ length v.log.records → Stored v slot r → ⊥
no_slot v slot r none drained used (inl at) = no_record v slot r none at
no_slot v slot r none drained used (inr (last, can, inl undrained)) = false≢true (sym undrained ∙ drained)
no_slot v slot r none drained used (inr (last, can, inr (past, making))) = omega (arith, past, making, used)

-- nothing of a slot is undrained where nothing of the log is written
unwritten_drained : (v : View) (words : List ℕ) (slot : ℕ) → IsUnwritten v words → SlotsFit v words → slot < 64 → is_drained_slot v slot ≡ true
unwritten_drained v words slot un slots low = no_slot_change v slot (λ c there same.
    let none = ap length un.no_records in
    let empty = ap length un.no_slot in
    let before = slots c there (record { low = omega arith; high = omega arith }) in
    omega arith)

-- the generation of a record that the log has can be raised
raisable : (flies : ℕ → List Final → Type 0) (v : View) (slot : ℕ) (r : Recorded) (phase : Phase) → v.lane < v.lanes → v.log.phase ≡ phase → (HasSealed phase → is_drained_slot v slot ≡ true) → PhaseFits flies v phase → InRange (generation_of v) v phase → generation_of v ≤ generation_limit → slot < 64 → Stored v slot r
    → records_generation phase v < 4611686018427387904
raisable flies v slot r Idle inside is drained fits range last low stored = absurd (no_slot v slot r fits.no_records (filled_slot v slot inside low fits.changes) (ap (λ p. used_slots p v) is) stored)
raisable flies v slot r (Open words pair) inside is drained fits range last low stored = ⊎_elim
    (λ (below : generation_of v < generation_limit). omega (arith, below))
    (λ (un : IsUnwritten v words). absurd (no_slot v slot r un.no_records (unwritten_drained v words slot un range.1 low) (ap (λ p. used_slots p v) is ∙ ap (λ (ws : List ℕ). used_slots (Open ws pair) v) un.no_slot) stored))
    range.0
raisable flies v slot r Drawn inside is drained fits range last low stored = omega (arith, range)
raisable flies v slot r Sealing inside is drained fits range last low stored = let below = fits.below in omega (arith, below)
raisable flies v slot r (Applying applied) inside is drained fits range last low stored = absurd (no_slot v slot r fits.no_records (drained tt) (ap (λ p. used_slots p v) is) stored)
raisable flies v slot r Clearing inside is drained fits range last low stored = absurd (no_slot v slot r fits.no_records (drained tt) (ap (λ p. used_slots p v) is) stored)
raisable flies v slot r Retiring inside is drained fits range last low stored = omega (arith, range, last)

module _ (o : Opening) (mem : Memory) (views : Views) (log : List Entry) (decided : ℕ → Bool) (x : World o mem views log decided) (image : List ℕ) (survives : Survives o mem views image) (whole : NoneTorn o views image)
    (ranges : (j : ℕ) → j < o.lanes → InRange (mem (PoolWord (area_word j))) (views j) (views j).log.phase) (none : heap_fault (slice_index o.words) o.lanes o.zones ≡ None) where
  fits : (j : ℕ) → j < o.lanes → LaneFits o mem (settled o log decided) (Flies log decided j) j (views j)
  fits j inside = x.each_lane j inside

  lane_low : (j : ℕ) → j < o.lanes → (views j).lane < (views j).lanes
  lane_low j inside = let lane = (fits j inside).lane.lane in let lanes = (fits j inside).lane.lanes in omega (arith, inside, lane, lanes)

  range_of : (j : ℕ) → j < o.lanes → InRange (generation_of (views j)) (views j) (views j).log.phase
  range_of j inside = subst (λ (g : ℕ). InRange g (views j) (views j).log.phase) (course.generation_is o mem views log decided x j inside) (ranges j inside)

  lane_good : (j : ℕ) → j < o.lanes → good_lane image j ≡ true
  unfolding good_lane
  lane_good j inside =
      let g : ℕ = generation_word image j in
      let s : ℕ = seal_word image j in
      let both = word_in_range o mem views log decided x image survives range_of none j inside in
      and_from (leb 1 g && leb g 4611686018427387904) (leb s 64)
      (and_from (leb 1 g) (leb g 4611686018427387904) (le-leb 1 g both.0) (le-leb g 4611686018427387904 both.1))
      (le-leb s 64 (seal_few o mem views log decided x image survives range_of none j inside))

  -- from the store of the seal on its slots are drained
  sealed_drained : (j slot : ℕ) → j < o.lanes → slot < 64 → HasSealed (views j).log.phase → is_drained_slot (views j) slot ≡ true
  sealed_drained j slot inside within sealed = drained o mem views log decided x image survives range_of none j slot (views j).log.phase inside within sealed (fits j inside).phase

  -- what a valid slot has
  record Valid (j slot : ℕ) (u : Undo) : Type 0 where
    held : Recorded
    is : u ≡ undo_from (records_generation (views j).log.phase (views j)) held
    some : 1 ≤ length held.old
    most : length held.old ≤ 4
    own : (w : ℕ) → covers held w ≡ true → IsTrue (is_written (views j) w)
    stored : Stored (views j) slot held

  module _ (j slot : ℕ) (u : Undo) (inside : j < o.lanes) (within : slot < 64) (valid : valid_record image j slot ≡ Some u) where
    abbrev v : View
    v = views j

    spelled_is : (r : Recorded) → length r.old ≤ 4 → undo_slot image j slot ≡ spelled (records_generation v.log.phase v) r → u ≡ undo_from (records_generation v.log.phase v) r
    spelled_is r most spells =
        let p = valid_parts image j slot u valid in
        same_Some u (undo_from (records_generation v.log.phase v) r) (sym p.stands ∙ (ap undo_of spells ∙ undo_of-spelled (records_generation v.log.phase v) r most))

    -- a valid slot that has undrained words of the log's record has this record, whole
    spells_its_record : slot < length v.log.records → (r : Recorded) → IsRecordAt v slot r → is_drained_slot v slot ≡ false → undo_slot image j slot ≡ spelled (records_generation v.log.phase v) r
    spells_its_record low r at undrained =
        let w : IsWhole v image slot = whole j slot u inside within (inl undrained) valid in
        let same : w.held ≡ r = ⊎_elim
        (λ (here : IsRecordAt v slot w.held). same_Some w.held r (sym here ∙ at))
        (λ (past : (length v.log.records ≤ slot) × CanRecord v w.held). let beyond = past.0 in absurd (omega (arith, low, beyond))) w.lawful in
        ap (λ n. undo_slot image n slot) (sym (fits j inside).lane.lane) ∙ (w.spells ∙ ap (spelled (records_generation v.log.phase v)) same)

    recorded_valid : slot < length v.log.records → Valid j slot u
    recorded_valid low =
        let r : Recorded = get_or v.log.records slot (record { word = 0; old = [] }) in
        let at : IsRecordAt v slot r = slice_get-get_or v.log.records slot (record { word = 0; old = [] }) low in
        let record_fits = (fits j inside).log.each slot r at in
        record {
          held = r;
          is = spelled_is r record_fits.most (⊎_elim
              (λ (drained : is_drained_slot v slot ≡ true). slot_stays o mem views log decided x image survives j slot inside within drained ∙ (fits j inside).log.stored slot r at)
              (λ (undrained : is_drained_slot v slot ≡ false). spells_its_record low r at undrained)
              (cases_Bool (is_drained_slot v slot)));
          some = record_fits.some;
          most = record_fits.most;
          own = λ w of. (recorded_word (settled o log decided) v r w record_fits of).own;
          stored = inl at;
        }

    can_word : (r : Recorded) (w : ℕ) → CanRecord v r → covers r w ≡ true → CanRecordWord v w (slice_index r.old (w - r.word))
    can_word r w can of =
        let t = and_parts (leb r.word w) (ltb w (r.word + length r.old)) of in
        let low = leb-true r.word w t.0 in
        let high = ltb-true w (r.word + length r.old) t.1 in
        let same : r.word + (w - r.word) ≡ w = omega (arith, low) in
        subst (λ i. CanRecordWord v i (slice_index r.old (w - r.word))) same (can.each (w - r.word) (omega (arith, low, high)))

    written_valid : length v.log.records ≤ slot → slot ≤ length v.log.records → IsBeingWritten v slot → Valid j slot u
    written_valid past upto written =
        let w : IsWhole v image slot = whole j slot u inside within written valid in
        let can : CanRecord v w.held = ⊎_elim (λ (at : IsRecordAt v slot w.held). let low = slice_get_within v.log.records slot w.held at in absurd (omega (arith, low, past))) (λ (can : (length v.log.records ≤ slot) × CanRecord v w.held). can.1) w.lawful in
        record {
          held = w.held;
          is = spelled_is w.held can.most (ap (λ n. undo_slot image n slot) (sym (fits j inside).lane.lane) ∙ w.spells);
          some = can.some;
          most = can.most;
          own = λ i of. (can_word w.held i can of).own;
          stored = inr (let e : slot ≡ length v.log.records = omega (arith, past, upto) in e, can, written);
        }

    unused : is_drained_slot v slot ≡ true → used_slots v.log.phase v ≤ slot → ⊥
    unused drained past =
        let stays = slot_stays o mem views log decided x image survives j slot inside within drained in
        let p = valid_parts image j slot u valid in
        let old = (fits j inside).log.stale slot u past within (ap undo_of (sym stays) ∙ p.stands) in
        let now : u.generation ≡ generation image j = p.present in
        let least = generation_from v (seal_word image j) (generation image j) v.log.phase (fits j inside).first_generation (generation_is o mem views log decided x image survives j inside) in
        omega (arith, old, now, least)

    undrained_valid : length v.log.records ≤ slot → is_drained_slot v slot ≡ false → Valid j slot u
    undrained_valid past undrained =
        let some : list_any (is_in_line (slot_line v.lane slot)) v.changes ≡ true = not_false (list_any (is_in_line (slot_line v.lane slot)) v.changes) undrained in
        let t = Any-from_list_any (is_in_line (slot_line v.lane slot)) v.changes some in
        let c : Change = t.1 in
        let there : Contains v.changes c = (t.0, t.2, t.3) in
        let line : c.word / 8 ≡ slot_line v.lane slot = eqb-true (c.word / 8) (slot_line v.lane slot) t.4 in
        written_valid past
        (undrained_upto (Flies log decided j) v c slot v.log.phase (lane_low j inside) (sealed_drained j slot inside within) (fits j inside).phase (change_fits (Flies log decided j) v c v.log.phase (fits j inside).phase there) (range_of j inside) there within line)
        (inl undrained) where
          not_false : (b : Bool) → not b ≡ false → b ≡ true
          not_false true e = refl
          not_false false e = absurd (false≢true (sym e))

    valid_slot : Valid j slot u
    valid_slot = ⊎_elim
        (λ (low : slot < length v.log.records). recorded_valid low)
        (λ (past : length v.log.records ≤ slot). ⊎_elim
        (λ (drained : is_drained_slot v slot ≡ true). ⊎_elim
        (λ (making : slot < used_slots v.log.phase v). let most = used_upto v v.log.phase in written_valid past (omega (arith, making, most)) (inr (past, making)))
        (λ (past_used : used_slots v.log.phase v ≤ slot). absurd (unused drained past_used))
        (cases_lt slot (used_slots v.log.phase v)))
        (λ (undrained : is_drained_slot v slot ≡ false). undrained_valid past undrained)
        (cases_Bool (is_drained_slot v slot)))
        (cases_lt slot (length v.log.records))

    writes : (w : ℕ) → covers valid_slot.held w ≡ true → WritesUnder o mem j w
    writes w of = writes_under o mem j v w (fits j inside).locks (valid_slot.own w of)

    covered_in_chunk : (w : ℕ) → covers valid_slot.held w ≡ true → in_chunk o.lanes o.zones w ≡ true
    covered_in_chunk w of = let t = writes w of in guarded_in_chunk o none x.sound.size t.0 w t.1

    -- it is good
    good_held : good_record o.lanes o.zones (undo_from (records_generation v.log.phase v) valid_slot.held) ≡ true
    unfolding good_record
    good_held =
        let r : Recorded = valid_slot.held in
        let n : ℕ = length r.old in
        let some = valid_slot.some in
        let most = valid_slot.most in
        let low = raisable (Flies log decided j) v slot r v.log.phase (lane_low j inside) refl (sealed_drained j slot inside within) (fits j inside).phase (range_of j inside) (fits j inside).last_generation within valid_slot.stored in
        let g : ℕ = records_generation v.log.phase v in
        let place : 8 * r.word / 8 ≡ r.word = omega arith in
        and_from (leb 1 n && leb n 4 && eqb (8 * r.word % 8) 0 && list_all (λ k. in_chunk o.lanes o.zones (8 * r.word / 8 + k)) (range_with_len 0 n)) (not (eqb g 4611686018427387904))
        (and_from (leb 1 n && leb n 4 && eqb (8 * r.word % 8) 0) (list_all (λ k. in_chunk o.lanes o.zones (8 * r.word / 8 + k)) (range_with_len 0 n))
        (and_from (leb 1 n && leb n 4) (eqb (8 * r.word % 8) 0) (and_from (leb 1 n) (leb n 4) (le-leb 1 n some) (le-leb n 4 most)) (eq-eqb (8 * r.word % 8) 0 (omega arith)))
        (all_pass (λ k. in_chunk o.lanes o.zones (8 * r.word / 8 + k)) 0 n
        (λ k inside_record. ap (λ w. in_chunk o.lanes o.zones (w + k)) place
        ∙ covered_in_chunk (r.word + k) (and_from (leb r.word (r.word + k)) (ltb (r.word + k) (r.word + n)) (le-leb r.word (r.word + k) (omega arith)) (lt-ltb (r.word + k) (r.word + n) (omega (arith, inside_record)))))))
        (ap not (ne_eqb g 4611686018427387904 (λ same. omega (arith, same, low))))

    slot_good : good_record o.lanes o.zones u ≡ true
    slot_good = ap (good_record o.lanes o.zones) valid_slot.is ∙ good_held

    -- what the slot covers, its record does
    covered : (i : ℕ) → logs.covers u (8 * i) ≡ true → covers valid_slot.held i ≡ true
    covered i of = covers_back (records_generation v.log.phase v) valid_slot.held i (sym (ap (λ (y : Undo). logs.covers y (8 * i)) valid_slot.is) ∙ of)

  slot_passes : (j slot : ℕ) → j < o.lanes → slot < 64 → bad_slot image o.lanes o.zones j slot ≡ false
  unfolding bad_slot
  slot_passes j slot inside within = go (valid_record image j slot) refl where
    go : (found : Option Undo) → valid_record image j slot ≡ found → option_map_or (λ u. not (good_record o.lanes o.zones u)) found false ≡ false
    go None is = refl
    go (Some u) is = ap not (slot_good j slot u inside within is)

  -- two valid slots that cover one word are one
  one_slot : (i j slot other : ℕ) (u y : Undo) → (inside : j < o.lanes) → (low : slot < 64) → (other_low : other < 64) → (valid : valid_record image j slot ≡ Some u) → (other_valid : valid_record image j other ≡ Some y)
      → logs.covers u (8 * i) ≡ true → logs.covers y (8 * i) ≡ true → slot ≡ other
  one_slot i j slot other u y inside low other_low valid other_valid of other_of =
      let a : Valid j slot u = valid_slot j slot u inside low valid in
      let b : Valid j other y = valid_slot j other y inside other_low other_valid in
      let a_of : covers a.held i ≡ true = covered j slot u inside low valid i of in
      let b_of : covers b.held i ≡ true = covered j other y inside other_low other_valid i other_of in
      ⊎_elim
      (λ (at : IsRecordAt (views j) slot a.held). ⊎_elim
      (λ (other_at : IsRecordAt (views j) other b.held). (fits j inside).log.once slot other a.held b.held i at other_at a_of b_of)
      (λ (new : (other ≡ length (views j).log.records) × CanRecord (views j) b.held × IsBeingWritten (views j) other).
      absurd (false≢true (sym (can_word j other y inside other_low other_valid b.held i new.1 b_of).new ∙ recorded_from (views j) i slot a.held at a_of)))
      b.stored)
      (λ (new : (slot ≡ length (views j).log.records) × CanRecord (views j) a.held × IsBeingWritten (views j) slot). ⊎_elim
      (λ (other_at : IsRecordAt (views j) other b.held).
      absurd (false≢true (sym (can_word j slot u inside low valid a.held i new.1 a_of).new ∙ recorded_from (views j) i other b.held other_at b_of)))
      (λ (other_new : (other ≡ length (views j).log.records) × CanRecord (views j) b.held × IsBeingWritten (views j) other). new.0 ∙ sym other_new.0)
      b.stored)
      a.stored

  module _ (i : ℕ) where
    abbrev p : Undo → Bool
    p u = logs.covers u (8 * i)

    -- a lane's valid slot that covers the word
    record Covering (j : ℕ) : Type 0 where
      slot : ℕ
      found : Undo
      low : slot < 64
      valid : valid_record image j slot ≡ Some found
      covering : logs.covers found (8 * i) ≡ true

    lane_few : (j : ℕ) → j < o.lanes → passing p (records image j) ≤ 1
    lane_few j inside =
        subst (λ (us : List Undo). passing p us ≤ 1) (sym (records_by_number image j))
        (at_most_one p (record_at image j) 0 64 (λ slot low. one_or_none p (valid_record image j slot))
        (λ slot other low other_low some other_some.
        let a = passing_one p (valid_record image j slot) some in
        let b = passing_one p (valid_record image j other) other_some in
        one_slot i j slot other a.0 b.0 inside low other_low a.1 b.1 a.2 b.2))

    lane_covering : (j : ℕ) → 1 ≤ passing p (records image j) → Covering j
    lane_covering j some =
        let t = some_part p (record_at image j) 0 64 (subst (λ (us : List Undo). 1 ≤ passing p us) (records_by_number image j) some) in
        let one = passing_one p (valid_record image j t.0) t.3 in
        record { slot = t.0; found = one.0; low = t.2; valid = one.1; covering = one.2 }

    one_lane : (j k : ℕ) → j < o.lanes → k < o.lanes → 1 ≤ passing p (records image j) → 1 ≤ passing p (records image k) → j ≡ k
    one_lane j k inside other_inside some other_some =
        let a : Covering j = lane_covering j some in
        let b : Covering k = lane_covering k other_some in
        one_writer o mem j k i x.sound
        (writes j a.slot a.found inside a.low a.valid i (covered j a.slot a.found inside a.low a.valid i a.covering))
        (writes k b.slot b.found other_inside b.low b.valid i (covered k b.slot b.found other_inside b.low b.valid i b.covering))

    no_clash : ltb 1 (passing p (flat_map (records image) (range_with_len 0 o.lanes))) ≡ false
    no_clash = le-ltb 1 (passing p (flat_map (records image) (range_with_len 0 o.lanes)))
        (at_most_one p (records image) 0 o.lanes (λ j low. lane_few j (omega (arith, low))) (λ j k low other_low. one_lane j k (omega (arith, low)) (omega (arith, other_low))))

    -- where a valid slot is of the word, no sealed entry is
    no_entry_there : 1 ≤ passing p (flat_map (records image) (range_with_len 0 o.lanes)) → length (entries_for image o.lanes (8 * i)) ≤ 0
    unfolding entries_for
    no_entry_there some =
        ⊎_elim (λ (entered : 0 < length (entries_for image o.lanes (8 * i))).
        let t = some_part p (records image) 0 o.lanes some in
        let e = some_part (λ (r : Redo). eqb r.place (8 * i)) (entries image) 0 o.lanes (omega (arith, entered)) in
        let j : ℕ = t.0 in
        let k : ℕ = e.0 in
        let inside : j < o.lanes = omega (arith, t.2) in
        let other_inside : k < o.lanes = omega (arith, e.2) in
        let a : Covering j = lane_covering j t.3 in
        let writing = writes j a.slot a.found inside a.low a.valid i (covered j a.slot a.found inside a.low a.valid i a.covering) in
        let enters_it = enters o mem views log decided x image survives range_of none k i other_inside (λ empty. let nothing : passing (λ (r : Redo). eqb r.place (8 * i)) (entries image k) ≡ 0 = ap length empty in let one = e.3 in omega (arith, nothing, one)) in
        absurd (⊎_elim (λ (two : WritesUnder o mem k i).
        let same : j ≡ k = one_writer o mem j k i x.sound writing two in
        enters_it.no_slot a.slot a.found a.low (subst (λ (n : ℕ). valid_record image n a.slot ≡ Some a.found) same a.valid))
        (λ (area : i ≡ area_word k). let behind = x.sound.behind_areas writing.0 i writing.1 in omega (arith, behind, area, other_inside)) enters_it.writes))
        (λ (few : length (entries_for image o.lanes (8 * i)) ≤ 0). few) (cases_lt 0 (length (entries_for image o.lanes (8 * i))))

    record_or_entry : (ltb 0 (passing p (flat_map (records image) (range_with_len 0 o.lanes))) && ltb 0 (length (entries_for image o.lanes (8 * i)))) ≡ false
    record_or_entry =
        let n : ℕ = passing p (flat_map (records image) (range_with_len 0 o.lanes)) in
        let m : ℕ = length (entries_for image o.lanes (8 * i)) in
        ⊎_elim (λ (some : 0 < n). and_right (ltb 0 n) (ltb 0 m) (le-ltb 0 m (no_entry_there (omega (arith, some)))))
        (λ (few : n ≤ 0). ap (λ (b : Bool). b && ltb 0 m) (le-ltb 0 n few)) (cases_lt 0 n)

    no_clashes : clashes image o.lanes (8 * i) ≡ false
    unfolding clashes records_for
    no_clashes =
        let n : ℕ = passing p (flat_map (records image) (range_with_len 0 o.lanes)) in
        let both : Bool = ltb 0 n && ltb 0 (length (entries_for image o.lanes (8 * i))) in
        or_from (ltb 1 n || both) (lanes_clash image o.lanes (8 * i)) (or_from (ltb 1 n) both no_clash record_or_entry) (no_lanes_clash o mem views log decided x image survives range_of none i)

  pub no_log_fault : log_fault image o.lanes o.zones ≡ None
  no_log_fault =
      sym (clash_row image o.lanes o.zones None
      (none_passes (λ j. not (good_lane image j)) o.lanes (λ j inside. not_from_true (good_lane image j) (lane_good j inside)))
      (none_passes (λ n. bad_entry image o.lanes o.zones (n / 64) (n % 64)) (64 * o.lanes) (λ n inside. entry_passes o mem views log decided x image survives range_of none (n / 64) (n % 64) (omega arith)))
      (none_passes (λ n. bad_slot image o.lanes o.zones (n / 64) (n % 64)) (64 * o.lanes) (λ n inside. slot_passes (n / 64) (n % 64) (omega arith) (omega arith)))
      (none_passes (λ i. clashes image o.lanes (8 * i)) (length image) (λ i inside. no_clashes i)))
