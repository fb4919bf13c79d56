-- Every image that survives means the history without the entries that it loses.
use Rattle.std.proofs.Common.{◌≡◌, ◌≢◌, ℕ, ◌+◌, ◌-◌, ◌*◌, ◌/◌, ◌<◌, ◌≤◌, ◌⊎◌, inl, inr, ⊎_elim, eqb, leb, ltb, Bool, true, false, not, ◌&&◌, Contains, All, List, [], ◌∷◌, drop, length, slice_get, slice_index, Option, Some, None, refl, sym, ap, ◌∙◌, subst, arith, ◌^◌}
use Rattle.std.specs.List.{list_any, range_with_len}
use Rattle.std.proofs.lemmas.Bool.{cases_Bool, and_from, and_parts, or_cases, or_from, or_left, or_parts, or_right, leb-true, ltb-true, eq-eqb, ne_eqb, false≢true, false_from_ne_true, not_from_false}
use Rattle.std.proofs.lemmas.Option.{none-some}
use Rattle.std.proofs.lemmas.List.Elements.{All-contains, All-weaker}
use Rattle.std.proofs.lemmas.List.Folds.{list_any_none}
use Rattle.pm_record.specs.declared.redo.Redo.{Redo}
use Rattle.pm_record.specs.declared.undo.Undo.{Undo}
use Rattle.solo_view.specs.declared.change.Change.{Change}
use Rattle.solo_view.specs.Area.{area_word, is_in_area}
use Rattle.solo_view.specs.Changes.{is_in_line}
use Rattle.solo_view.specs.Log.{Phase, Recorded}
use Rattle.solo_view.specs.Log.Phase.{Idle, Open, Drawn, Sealing, Applying, Clearing, Retiring}
use Rattle.solo_view.specs.Rights.{is_written}
use Rattle.solo_view.specs.View.{View}
use Rattle.pm_image.specs.Logs as logs
use Rattle.pm_image.specs.Logs.{generation_word, old_word, recovered, slot_line}
use Rattle.pm_image.specs.Steps.{valid_record}
use Rattle.pm_image.proofs.Redoing.{entries_unsealed}
use Rattle.solo_world.specs.Course.{flight_in, flight, is_number}
use Rattle.solo_world.specs.Crash.{NoneTorn, Survives, is_deciding_in, is_kept, loses}
use Rattle.solo_world.specs.Entries.{HasNone, applied_in, is_entered, is_in_log, is_redoing, is_redone, KnowsOrs, LeaveWord, is_or_entered, EntersAlone, IsGrowing}
use Rattle.solo_world.specs.Fits.{PhaseFits, EndFits, RetiringChange, SealChange, SealingFits, IsOfEntries}
use Rattle.solo_world.specs.History.{Entry, Flies, is_final, made_final, replayed, settled}
use Rattle.solo_world.specs.Memory.{Memory}
use Rattle.solo_world.specs.Memory.Location.{PoolWord}
use Rattle.solo_world.specs.Opening.{IsLivingWord, Opening}
use Rattle.solo_world.specs.Records.{IsRecordAt, difference_of, generation_of, is_recorded, is_drained_slot, is_logged, pool_entries, records_generation}
use Rattle.solo_world.specs.World.{Views, World}
use Rattle.pm_record.specs.declared.redo.Op.TheVariants.{Set}
use Rattle.solo_world.proofs.Plain.{flying_still, redoing_still}
use Rattle.solo_world.proofs.CrashEntries.{HasSealed, entries_read, generation_is, none_of, of_word, redone_word, some_of, some_sealed, unentered_word}
use Rattle.solo_world.proofs.CrashLogs.{ChangeFits, GenerationIs, RecordOf, SealIs, entry_of_word, record_of, recorded_from, logged_recorded, not_logged, unrecorded_unlogged}
use Rattle.solo_world.proofs.CrashRecords.{generation_unsealed, recovered_unentered, unsealed}
use Rattle.solo_world.proofs.CrashReplays.{lane_some, kept_settled, kept_new}
use Rattle.solo_world.proofs.CrashSays.{Says, slot_says, drained_valid}
use Rattle.solo_world.proofs.CrashWords.{changer, word_beside, word_small, recorded_fits, recorded_writes, one_recorder, behind_areas, entered_writes, fits_of, seal_is, word_stays}
use Rattle.solo_world.proofs.Differences.{difference-recorded, difference-unrecorded, difference-words, pool_entries-final, pool_entries-makes}
use Rattle.solo_world.proofs.Exclusion.{WritesUnder, one_writer}
use Rattle.solo_world.proofs.TakenBits.{redone_beside}
use Rattle.solo_world.proofs.Losses.{some_lane}
use Rattle.solo_world.proofs.MadeBits.{IsMasked}
use Rattle.solo_world.proofs.Pairs.{entries_masked}
use Rattle.solo_world.proofs.Replays.{made_final-other}

-- with nothing undrained each slot is drained
pub all_drained : (v : View) (slot : ℕ) → v.changes ≡ [] → is_drained_slot v slot ≡ true
all_drained v slot nothing = ap (λ changes. not (list_any (is_in_line (slot_line v.lane slot)) changes)) nothing

-- while the generation ends, no slot has a change
pub retiring_drained : (v : View) (slot : ℕ) → All (RetiringChange v) v.changes → is_drained_slot v slot ≡ true
retiring_drained v slot changes =
    not_from_false (list_any (is_in_line (slot_line v.lane slot)) v.changes)
    (list_any_none (is_in_line (slot_line v.lane slot)) v.changes
    (All-weaker (RetiringChange v) (λ c. is_in_line (slot_line v.lane slot) c ≡ false) (λ c fits. let of = fits.of in ne_eqb (c.word / 8) (slot_line v.lane slot) (λ same. omega arith)) v.changes changes))

-- while the seal is stored, no slot has a change
pub seal_drained : (v : View) (old slot : ℕ) → All (SealChange v old) v.changes → is_drained_slot v slot ≡ true
seal_drained v old slot changes =
    not_from_false (list_any (is_in_line (slot_line v.lane slot)) v.changes)
    (list_any_none (is_in_line (slot_line v.lane slot)) v.changes
    (All-weaker (SealChange v old) (λ c. is_in_line (slot_line v.lane slot) c ≡ false) (λ c fits. let of = fits.of in ne_eqb (c.word / 8) (slot_line v.lane slot) (λ same. omega arith)) v.changes changes))

no_record : (v : View) (slot : ℕ) (r : Recorded) → v.log.records ≡ [] → IsRecordAt v slot r → ⊥
no_record v slot r none at = none-some r (sym (ap (λ records. slice_get records slot) none) ∙ at)

-- a log that is sealed may not grow
pub sealed_still : (phase : Phase) → HasSealed phase → IsGrowing phase → ⊥
sealed_still (Open slot pair) sealed grows = sealed
sealed_still Idle sealed grows = grows
sealed_still Drawn sealed grows = grows
sealed_still Sealing sealed grows = grows
sealed_still (Applying applied) sealed grows = grows
sealed_still Clearing sealed grows = grows
sealed_still Retiring sealed grows = grows

-- there is some entry
abbrev is_some_entry : List Redo → Bool
is_some_entry [] = false
is_some_entry (e ∷ es) = true

no_entry : (es : List Redo) → is_some_entry es ≡ false → es ≡ []
no_entry [] e = refl
no_entry (x ∷ es) e = absurd (false≢true (sym e))

drop_all : {X : Type 0} (xs : List X) → drop (length xs) xs ≡ []
drop_all [] = refl
drop_all (x ∷ xs) = drop_all xs

module _ (o : Opening) (mem : Memory) (views : Views) (log : List Entry) (decided : ℕ → Bool) (x : World o mem views log decided) (image : List ℕ) (survives : Survives o mem views image) (whole : NoneTorn o views image) where
  -- the image has no entries of a lane, or has it sealed, with the lane's own
  pub entries_cases : (j : ℕ) → j < o.lanes → (logs.entries image j ≡ []) ⊎ (HasSealed (views j).log.phase × (logs.seal_word image j ≡ length (views j).log.entries))
  entries_cases j low = by_phase (views j).log.phase (seal_is o mem views log decided x image survives j low) where
    none : logs.seal_word image j ≡ 0 → logs.entries image j ≡ []
    none zero_seal = entries_unsealed image j (unsealed image j zero_seal)

    by_phase : (phase : Phase) → SealIs (views j) (logs.seal_word image j) phase → (logs.entries image j ≡ []) ⊎ (HasSealed phase × (logs.seal_word image j ≡ length (views j).log.entries))
    by_phase Idle seal = inl (none seal)
    by_phase (Open slot pair) seal = inl (none seal)
    by_phase Drawn seal = inl (none seal)
    by_phase Sealing (inl full) = inr (tt, full)
    by_phase Sealing (inr zero_seal) = inl (none zero_seal)
    by_phase (Applying applied) seal = inr (tt, seal)
    by_phase Clearing (inl full) = inr (tt, full)
    by_phase Clearing (inr zero_seal) = inl (none zero_seal)
    by_phase Retiring seal = inl (none seal)

  -- none of a lane's sealed entries is of the word where none of its entries is
  pub no_other : (w j : ℕ) → j < o.lanes → ((IsGrowing (views j).log.phase → ⊥) → is_final (views j).log.entries w ≡ true → ⊥) → of_word w (logs.entries image j) ≡ []
  no_other w j low never =
      ⊎_elim (λ (none : logs.entries image j ≡ []). ap (of_word w) none)
      (λ (sealed : HasSealed (views j).log.phase × (logs.seal_word image j ≡ length (views j).log.entries)).
      let t = entries_read o mem views log decided x image survives j low sealed.0 sealed.1 in
      ap (of_word w) t.2 ∙ none_of (views j).log.entries t.0 w t.1 (false_from_ne_true (is_final (views j).log.entries w) (never (sealed_still (views j).log.phase sealed.0))))
      (entries_cases j low)

  module _ (w : ℕ) (heap : IsLivingWord o w) where
    -- the word after the entries that are not lost
    abbrev Kept : ℕ
    Kept = replayed (is_kept o views image) log w (slice_index o.words w)

    -- no valid slot covers the word
    abbrev NoSlot : Type 0
    NoSlot = (lane slot : ℕ) (u : Undo) → lane < o.lanes → slot < 64 → valid_record image lane slot ≡ Some u → logs.covers u (8 * w) ≡ false

    -- no entry that is sealed in the image is of the word
    abbrev NoEntry : Type 0
    NoEntry = (k : ℕ) → k < o.lanes → of_word w (logs.entries image k) ≡ []

    outside : (w < 512) ⊎ (512 + 1024 * o.lanes ≤ w)
    outside = ⊎_elim (λ (root : w ≡ 64). inl (omega arith)) (λ (zone : (512 + 1024 * o.lanes ≤ w) × (w < 512 + 1024 * o.lanes + 33280 * o.zones)). inr zone.0) heap.heap

    inside_image : w < length o.words
    inside_image = let size = x.sound.size in ⊎_elim (λ (root : w ≡ 64). omega arith) (λ (zone : (512 + 1024 * o.lanes ≤ w) × (w < 512 + 1024 * o.lanes + 33280 * o.zones)). let high = zone.1 in omega arith) heap.heap

    -- it is in no lane's area
    elsewhere : (k : ℕ) → k < o.lanes → is_in_area (views k).lane w ≡ false
    elsewhere k inside = false_from_ne_true (is_in_area (views k).lane w) (λ e.
        let t = and_parts (leb (area_word (views k).lane) w) (ltb w (area_word (views k).lane + 1024)) e in
        let low = leb-true (area_word (views k).lane) w t.0 in
        let high = ltb-true w (area_word (views k).lane + 1024) t.1 in
        let at = (x.each_lane k inside).lane.lane in
        ⊎_elim (λ (front : w < 512). omega arith) (λ (back : 512 + 1024 * o.lanes ≤ w). omega arith) outside)

    -- a lane whose call in flight is of the word may write it
    difference_writes : (k n : ℕ) → k < o.lanes → flight (views k) ≡ Some n → is_final (difference_of (views k)) w ≡ true → WritesUnder o mem k w
    difference_writes k n inside flies e =
        ⊎_elim (λ (recorded : is_recorded (views k).log.records w ≡ true). recorded_writes o mem views log decided x k w inside recorded)
        (λ (entered : is_final (pool_entries (views k)) w ≡ true). entered_writes o mem views log decided x k w inside outside (flying_still (views k).log.phase n (views k).number flies) (sym (pool_entries-final (views k) w (elsewhere k inside)) ∙ entered))
        (or_cases (is_recorded (views k).log.records w) (is_final (pool_entries (views k)) w) (sym (difference-words (views k) w) ∙ e))

    redone_writes : (k : ℕ) → k < o.lanes → is_redone (views k) w ≡ true → WritesUnder o mem k w
    redone_writes k inside e = let t = and_parts (is_redoing (views k).log.phase) (is_entered (views k).log.entries w) e in entered_writes o mem views log decided x k w inside outside (redoing_still (views k).log.phase t.0) t.1

    -- a lane that would redo the word locked it for writing
    redone_written : (j : ℕ) → j < o.lanes → is_redone (views j) w ≡ true → is_written (views j) w ≡ true
    redone_written j low e =
        let both = and_parts (is_redoing (views j).log.phase) (is_entered (views j).log.entries w) e in
        let t = entry_of_word (views j).log.entries w both.1 in
        let lane = (x.each_lane j low).lane.lane in
        let stands = (x.each_lane j low).entries.each t.place t.held t.at in
        ⊎_elim (λ (written : is_written (views j) t.held.word ≡ true). subst (λ u. is_written (views j) u ≡ true) t.of written)
        (λ other. absurd (⊎_elim (λ (own : (t.held.word ≡ area_word (views j).lane) × (stands.op ≡ Set)).
        let here = own.0 in let same = t.of in ⊎_elim (λ (front : w < 512). omega arith) (λ (back : 512 + 1024 * o.lanes ≤ w). omega arith) outside)
        (λ (alone : EntersAlone (views j) t.held.word). redoing_still (views j).log.phase both.0 alone.1) other)) stands.may.of

    -- no change of the word, and it is in no lane's log
    plain_settled : ((k : ℕ) → k < o.lanes → is_in_log (views k) w ≡ false) → slice_index image w ≡ settled o log decided w
    plain_settled unlogged =
        word_stays o mem views log decided x image survives w inside_image outside heap.living
        (λ k c inside there is logs_it. let t = or_parts (is_logged (views k) w) (is_redone (views k) w) (unlogged k inside) in
        ⊎_elim (λ (logged : is_logged (views k) w ≡ true). false≢true (sym t.0 ∙ logged)) (λ (redone : (is_redone (views k) w ≡ true) × (is_written (views k) w ≡ true)). false≢true (sym t.1 ∙ redone.0)) logs_it)
        ∙ x.each_word w heap unlogged

    -- a sealed entry of the word in the image
    entered_there : (k : ℕ) → k < o.lanes → HasSealed (views k).log.phase → logs.seal_word image k ≡ length (views k).log.entries → is_final (views k).log.entries w ≡ true → NoEntry → ⊥
    entered_there k inside sealed full of none =
        let read = entries_read o mem views log decided x image survives k inside sealed full in
        let t = some_of (views k).log.entries read.0 w read.1 of in
        false≢true (ap is_some_entry (sym (none k inside) ∙ (ap (of_word w) read.2 ∙ t.2)))

    -- a call in flight that only enters the word, and whose entries are not sealed in the image, is lost
    entered_lost : NoEntry → (k n : ℕ) (phase : Phase) → k < o.lanes → (views k).log.phase ≡ phase → HasNone phase (views k) → SealIs (views k) (logs.seal_word image k) phase
        → is_final (views k).log.entries w ≡ true → flight_in phase (views k).number ≡ Some n → (is_number (views k).number n && not (is_deciding_in image (views k) phase)) ≡ true
    entered_lost none k n Idle inside is without seal of flies = absurd (none-some n flies)
    entered_lost none k n (Open slot pair) inside is without seal of flies = absurd (none-some n flies)
    entered_lost none k n Drawn inside is without seal of flies = and_from (is_number (views k).number n) true (ap (λ m. is_number m n) flies ∙ eq-eqb n n refl) refl
    entered_lost none k n Sealing inside is without seal of flies =
        ⊎_elim (λ (full : logs.seal_word image k ≡ length (views k).log.entries). absurd (entered_there k inside (subst HasSealed (sym is) tt) full of none))
        (λ (zero_seal : logs.seal_word image k ≡ 0).
        and_from (is_number (views k).number n) (not (not (eqb (logs.seal_word image (views k).lane) 0))) (ap (λ m. is_number m n) flies ∙ eq-eqb n n refl)
        (ap (λ b. not (not b)) (eq-eqb (logs.seal_word image (views k).lane) 0 (ap (logs.seal_word image) (x.each_lane k inside).lane.lane ∙ zero_seal)))) seal
    entered_lost none k n (Applying applied) inside is without seal of flies = absurd (none-some n flies)
    entered_lost none k n Clearing inside is without seal of flies = absurd (none-some n flies)
    entered_lost none k n Retiring inside is without seal of flies = absurd (false≢true (ap (λ es. is_final es w) (sym without) ∙ of))

    unrecorded_lost : NoEntry → ((k : ℕ) → k < o.lanes → is_recorded (views k).log.records w ≡ false) → (k n : ℕ) → k < o.lanes → is_final (difference_of (views k)) w ≡ true → flight (views k) ≡ Some n → loses image (views k) n ≡ true
    unrecorded_lost none unrecorded k n inside of flies =
        ⊎_elim (λ (recorded : is_recorded (views k).log.records w ≡ true). absurd (false≢true (sym (unrecorded k inside) ∙ recorded)))
        (λ (entered : is_final (pool_entries (views k)) w ≡ true).
        entered_lost none k n (views k).log.phase inside refl (x.each_lane k inside).entries.none (seal_is o mem views log decided x image survives k inside) (sym (pool_entries-final (views k) w (elsewhere k inside)) ∙ entered) flies)
        (or_cases (is_recorded (views k).log.records w) (is_final (pool_entries (views k)) w) (sym (difference-words (views k) w) ∙ of))

    -- nobody recorded the word, and one lane would redo it, whose seal the image does not have
    plain_cleared : NoEntry → ((k : ℕ) → k < o.lanes → is_recorded (views k).log.records w ≡ false) → (k : ℕ) (phase : Phase) → k < o.lanes → (views k).log.phase ≡ phase → is_redone (views k) w ≡ true
        → SealIs (views k) (logs.seal_word image k) phase → ((c : Change) → Contains (views k).changes c → ChangeFits (views k) c phase) → slice_index image w ≡ settled o log decided w
    plain_cleared none unrecorded k Idle inside is redone seal fits = absurd (false≢true (ap is_redoing (sym is) ∙ (and_parts (is_redoing (views k).log.phase) _ redone).0))
    plain_cleared none unrecorded k (Open slot pair) inside is redone seal fits = absurd (false≢true (ap is_redoing (sym is) ∙ (and_parts (is_redoing (views k).log.phase) _ redone).0))
    plain_cleared none unrecorded k Drawn inside is redone seal fits = absurd (false≢true (ap is_redoing (sym is) ∙ (and_parts (is_redoing (views k).log.phase) _ redone).0))
    plain_cleared none unrecorded k Sealing inside is redone seal fits = absurd (false≢true (ap is_redoing (sym is) ∙ (and_parts (is_redoing (views k).log.phase) _ redone).0))
    plain_cleared none unrecorded k (Applying applied) inside is redone seal fits =
        absurd (entered_there k inside (subst HasSealed (sym is) tt) seal (and_parts (is_redoing (views k).log.phase) (is_entered (views k).log.entries w) redone).1 none)
    plain_cleared none unrecorded k Clearing inside is redone seal fits =
        ⊎_elim (λ (full : logs.seal_word image k ≡ length (views k).log.entries).
        absurd (entered_there k inside (subst HasSealed (sym is) tt) full (and_parts (is_redoing (views k).log.phase) (is_entered (views k).log.entries w) redone).1 none))
        (λ (zero_seal : logs.seal_word image k ≡ 0).
        let at = (x.each_lane k inside).lane.lane in
        let mine = redone_writes k inside redone in
        let stays = word_stays o mem views log decided x image survives w inside_image outside heap.living
        (λ j c j_inside there of logs_it. ⊎_elim (λ (logged : is_logged (views j) w ≡ true). false≢true (sym (unrecorded j j_inside) ∙ logged_recorded (views j) w logged))
        (λ (other : (is_redone (views j) w ≡ true) × (is_written (views j) w ≡ true)).
        let same : j ≡ k = one_writer o mem j k w x.sound (redone_writes j j_inside other.0) mine in
        let fit = fits c (subst (λ i. Contains (views i).changes c) same there) in
        let seal_word_of = fit.of in
        ⊎_elim (λ (front : w < 512). omega arith) (λ (back : 512 + 1024 * o.lanes ≤ w). omega arith) outside) logs_it) in
        let r = (x.each_lane k inside).redone w redone (redone_written k inside redone) in
        let all : drop (applied_in (views k).log.phase (views k)) (views k).log.entries ≡ [] = ap (λ p. drop (applied_in p (views k)) (views k).log.entries) is ∙ drop_all (views k).log.entries in
        stays ∙ (sym (made_final-other [] w (mem (PoolWord w)) refl) ∙ (ap (λ es. made_final es w (mem (PoolWord w))) (sym all) ∙ r.rest))) seal
    plain_cleared none unrecorded k Retiring inside is redone seal fits = absurd (false≢true (ap is_redoing (sym is) ∙ (and_parts (is_redoing (views k).log.phase) _ redone).0))

    -- nobody recorded the word
    plain_unrecorded : NoEntry → ((k : ℕ) → k < o.lanes → is_recorded (views k).log.records w ≡ false) → slice_index image w ≡ Kept
    plain_unrecorded none unrecorded =
        ⊎_elim (λ (some : list_any (λ k. is_redone (views k) w) (range_with_len 0 o.lanes) ≡ true).
        let l = some_lane (λ k. is_redone (views k) w) 0 o.lanes some in
        let inside : l.0 < o.lanes = omega (arith, l.2) in
        plain_cleared none unrecorded l.0 (views l.0).log.phase inside refl l.3 (seal_is o mem views log decided x image survives l.0 inside) (λ c there. fits_of o mem views log decided x l.0 c inside there))
        (λ (nobody : list_any (λ k. is_redone (views k) w) (range_with_len 0 o.lanes) ≡ false).
        plain_settled (λ k inside. or_from (is_logged (views k) w) (is_redone (views k) w) (unrecorded_unlogged (views k) w (unrecorded k inside))
        (false_from_ne_true (is_redone (views k) w) (λ redone. false≢true (sym nobody ∙ lane_some (λ j. is_redone (views j) w) o.lanes k inside redone)))))
        (cases_Bool (list_any (λ k. is_redone (views k) w) (range_with_len 0 o.lanes)))
        ∙ sym (kept_settled o mem views log decided x image w (unrecorded_lost none unrecorded))

    module _ (none_there : NoEntry) (k : ℕ) (inside : k < o.lanes) (t : RecordOf (views k) w) where
      recorded : is_recorded (views k).log.records w ≡ true
      recorded = recorded_from (views k) w t.slot t.held t.at t.of

      mine : WritesUnder o mem k w
      mine = recorded_writes o mem views log decided x k w inside recorded

      only : (j : ℕ) → j < o.lanes → is_recorded (views j).log.records w ≡ true → j ≡ k
      only j j_inside other = one_recorder o mem views log decided x j k w j_inside inside other recorded

      only_redone : (j : ℕ) → j < o.lanes → is_redone (views j) w ≡ true → j ≡ k
      only_redone j j_inside other = one_writer o mem j k w x.sound (redone_writes j j_inside other) mine

      of_difference : is_final (difference_of (views k)) w ≡ true
      of_difference = difference-words (views k) w ∙ or_left (is_recorded (views k).log.records w) (is_final (pool_entries (views k)) w) recorded

      -- its call is not in flight, so the word is to be as it was settled
      kept_as_settled : ((n : ℕ) → flight (views k) ≡ Some n → ⊥) → Kept ≡ settled o log decided w
      kept_as_settled rests =
          kept_settled o mem views log decided x image w
          (λ j n j_inside other flies. absurd (rests n (subst (λ i. flight (views i) ≡ Some n) (one_writer o mem j k w x.sound (difference_writes j n j_inside flies other) mine) flies)))

      -- nobody changed the word, where the lane's changes are of none of its log
      stays : is_redoing (views k).log.phase ≡ false → ((c : Change) → Contains (views k).changes c → c.word ≡ w → ⊥) → slice_index image w ≡ mem (PoolWord w)
      stays early away =
          word_stays o mem views log decided x image survives w inside_image outside heap.living
          (λ j c j_inside there of logs_it.
          ⊎_elim (λ (logged : is_logged (views j) w ≡ true). let same = only j j_inside (logged_recorded (views j) w logged) in away c (subst (λ i. Contains (views i).changes c) same there) of)
          (λ (redone : (is_redone (views j) w ≡ true) × (is_written (views j) w ≡ true)).
          let same = only_redone j j_inside redone.0 in
          false≢true (sym early ∙ subst (λ i. is_redoing (views i).log.phase ≡ true) same (and_parts (is_redoing (views j).log.phase) (is_entered (views j).log.entries w) redone.0).0)) logs_it)

      -- the record is not drained, so the word was not written
      plain_undrained : is_redoing (views k).log.phase ≡ false → is_drained_slot (views k) t.slot ≡ false → ((n : ℕ) → flight (views k) ≡ Some n → ⊥) → slice_index image w ≡ Kept
      plain_undrained early undrained rests =
          let here : is_logged (views k) w ≡ false = not_logged (views k) w (λ slot r at of.
          let same : slot ≡ t.slot = (x.each_lane k inside).log.once slot t.slot r t.held w at t.at of t.of in
          ap (is_drained_slot (views k)) same ∙ undrained) in
          plain_settled (λ j j_inside. or_from (is_logged (views j) w) (is_redone (views j) w)
          (false_from_ne_true (is_logged (views j) w) (λ logged.
          let same = only j j_inside (logged_recorded (views j) w logged) in
          false≢true (sym here ∙ subst (λ i. is_logged (views i) w ≡ true) same logged)))
          (false_from_ne_true (is_redone (views j) w) (λ redone.
          let same = only_redone j j_inside redone in
          false≢true (sym early ∙ subst (λ i. is_redoing (views i).log.phase ≡ true) same (and_parts (is_redoing (views j).log.phase) (is_entered (views j).log.entries w) redone).0))))
          ∙ sym (kept_as_settled rests)

      -- the word as the call left it
      plain_left : is_redoing (views k).log.phase ≡ false → ((c : Change) → Contains (views k).changes c → c.word ≡ w → ⊥) → slice_index image w ≡ slice_index (views k).words w
      plain_left early away = stays early away ∙ (x.each_lane k inside).picture.known w (recorded_fits o mem views log decided x k w inside t).known

      behind : 512 + 1024 * o.lanes ≤ w
      behind = behind_areas o mem views log decided x k w mine

      plain_end : (number : Option ℕ) → (views k).number ≡ number → (views k).log.phase ≡ Retiring → is_deciding_in image (views k) Retiring ≡ true
          → EndFits (Flies log decided k) (views k) number → slice_index (views k).words w ≡ Kept
      plain_end None is ends deciding restored =
          let fits = recorded_fits o mem views log decided x k w inside t in
          let of = and_parts (leb t.held.word w) (ltb w (t.held.word + length t.held.old)) t.of in
          let low = leb-true t.held.word w of.0 in
          let high = ltb-true w (t.held.word + length t.held.old) of.1 in
          let same : t.held.word + (w - t.held.word) ≡ w = omega arith in
          sym (ap (slice_index (views k).words) same) ∙ (restored t.slot t.held (w - t.held.word) t.at (omega arith) ∙ (fits.before
          ∙ sym (kept_as_settled (λ n flies. none-some n (sym (ap (λ p. flight_in p (views k).number) ends ∙ is) ∙ flies)))))
      plain_end (Some n) is ends deciding flies =
          let unentered : (views k).log.entries ≡ [] = subst (λ p. HasNone p (views k)) ends (x.each_lane k inside).entries.none in
          sym (kept_new o mem views log decided x image k n w inside (ap (is_deciding_in image (views k)) ends ∙ deciding) flies of_difference
          ∙ (difference-recorded (views k) w (settled o log decided w) recorded ∙ (pool_entries-makes (views k) w (slice_index (views k).words w) (elsewhere k inside)
          ∙ made_final-other (views k).log.entries w (slice_index (views k).words w) (ap (λ es. is_final es w) unentered))))

      -- the seal is in the image, and no entry is of the word
      plain_sealed : (views k).log.phase ≡ Sealing → SealingFits (Flies log decided k) (views k) → logs.seal_word image k ≡ length (views k).log.entries → logs.seal_word image k ≢ 0 → slice_index (views k).words w ≡ Kept
      plain_sealed is fits full some =
          let at = (x.each_lane k inside).lane.lane in
          let unentered : is_final (views k).log.entries w ≡ false = false_from_ne_true (is_final (views k).log.entries w) (λ of. entered_there k inside (subst HasSealed (sym is) tt) full of none_there) in
          let deciding : not (eqb (logs.seal_word image (views k).lane) 0) ≡ true = not_from_false (eqb (logs.seal_word image (views k).lane) 0) (ne_eqb (logs.seal_word image (views k).lane) 0 (λ zero_seal. some (sym (ap (logs.seal_word image) at) ∙ zero_seal))) in
          sym (kept_new o mem views log decided x image k fits.number w inside (ap (is_deciding_in image (views k)) is ∙ deciding) fits.flying of_difference
          ∙ (difference-recorded (views k) w (settled o log decided w) recorded ∙ (pool_entries-makes (views k) w (slice_index (views k).words w) (elsewhere k inside) ∙ made_final-other (views k).log.entries w (slice_index (views k).words w) unentered)))

      -- a drained record would be valid in the image
      valid_there : (phase : Phase) → (views k).log.phase ≡ phase → is_drained_slot (views k) t.slot ≡ true → logs.generation image k ≡ records_generation phase (views k) → NoSlot → ⊥
      valid_there phase is drained same none =
          drained_valid o mem views log decided x image survives whole k w inside t drained (same ∙ ap (λ p. records_generation p (views k)) (sym is)) (λ slot u within valid. none k slot u inside within valid)

      -- without a valid slot the word is as it is to be, by how far the call has come
      plain_recorded : (phase : Phase) → (views k).log.phase ≡ phase → PhaseFits (Flies log decided k) (views k) phase → SealIs (views k) (logs.seal_word image k) phase
          → GenerationIs (views k) (logs.seal_word image k) (logs.generation image k) phase → NoSlot → slice_index image w ≡ Kept
      plain_recorded Idle is fits seal generation none = absurd (no_record (views k) t.slot t.held fits.no_records t.at)
      plain_recorded (Open slot pair) is fits seal generation none =
          ⊎_elim (λ (drained : is_drained_slot (views k) t.slot ≡ true). absurd (valid_there (Open slot pair) is drained generation none))
          (λ (undrained : is_drained_slot (views k) t.slot ≡ false). plain_undrained (ap is_redoing is) undrained (λ n flies. none-some n (sym (ap (λ p. flight_in p (views k).number) is) ∙ flies)))
          (cases_Bool (is_drained_slot (views k) t.slot))
      plain_recorded Drawn is fits seal generation none = absurd (valid_there Drawn is (all_drained (views k) t.slot fits.drained) generation none)
      plain_recorded Sealing is fits seal generation none =
          let at = (x.each_lane k inside).lane.lane in
          ⊎_elim (λ (lost : (logs.seal_word image k ≡ 0) × (logs.generation image k ≡ generation_of (views k))). absurd (valid_there Sealing is (seal_drained (views k) 0 t.slot fits.changes) lost.1 none))
          (λ (kept : (logs.seal_word image k ≢ 0) × (logs.generation image k ≡ generation_of (views k) + 1)).
          let full : logs.seal_word image k ≡ length (views k).log.entries = ⊎_elim (λ (f : logs.seal_word image k ≡ length (views k).log.entries). f) (λ (z : logs.seal_word image k ≡ 0). absurd (kept.0 z)) seal in
          plain_left (ap is_redoing is) (λ c there of. let fit = All-contains (SealChange (views k) 0) (views k).changes c fits.changes there in let o_ = fit.of in let b = behind in omega arith)
          ∙ plain_sealed is fits full kept.0) generation
      plain_recorded (Applying applied) is fits seal generation none = absurd (no_record (views k) t.slot t.held fits.no_records t.at)
      plain_recorded Clearing is fits seal generation none = absurd (no_record (views k) t.slot t.held fits.no_records t.at)
      plain_recorded Retiring is fits seal generation none =
          let at = (x.each_lane k inside).lane.lane in
          ⊎_elim
          (λ (next : logs.generation image k ≡ generation_of (views k)).
          let deciding : is_deciding_in image (views k) Retiring ≡ true = eq-eqb (generation_word image (views k).lane) (generation_of (views k))
          (ap (generation_word image) at ∙ (sym (generation_unsealed image k seal) ∙ next)) in
          plain_left (ap is_redoing is) (λ c there of. let fit = All-contains (RetiringChange (views k)) (views k).changes c fits.changes there in let o_ = fit.of in let b = behind in omega arith)
          ∙ plain_end (views k).number refl is deciding fits.ends)
          (λ (before : logs.generation image k + 1 ≡ generation_of (views k)).
          let last : logs.generation image k ≡ generation_of (views k) - 1 = omega arith in
          absurd (valid_there Retiring is (retiring_drained (views k) t.slot fits.changes) last none))
          generation

    by_recorder : NoEntry → NoSlot → list_any (λ k. is_recorded (views k).log.records w) (range_with_len 0 o.lanes) ≡ true → slice_index image w ≡ Kept
    by_recorder none_there none some =
        let l = some_lane (λ k. is_recorded (views k).log.records w) 0 o.lanes some in
        let inside : l.0 < o.lanes = omega (arith, l.2) in
        plain_recorded none_there l.0 inside (record_of (views l.0) w l.3) (views l.0).log.phase refl (x.each_lane l.0 inside).phase (seal_is o mem views log decided x image survives l.0 inside)
        (generation_is o mem views log decided x image survives l.0 inside) none

    -- without a valid slot, and an entry, the image has the word
    plain : NoEntry → NoSlot → slice_index image w ≡ Kept
    plain none_there none =
        ⊎_elim (by_recorder none_there none)
        (λ (nobody : list_any (λ k. is_recorded (views k).log.records w) (range_with_len 0 o.lanes) ≡ false).
        plain_unrecorded none_there (λ k inside. false_from_ne_true (is_recorded (views k).log.records w) (λ recorder. false≢true (sym nobody ∙ lane_some (λ j. is_recorded (views j).log.records w) o.lanes k inside recorder))))
        (cases_Bool (list_any (λ k. is_recorded (views k).log.records w) (range_with_len 0 o.lanes)))

    -- a valid slot says what the word was before its lane's call, which is lost
    restored_kept : (k slot : ℕ) (u : Undo) → k < o.lanes → slot < 64 → valid_record image k slot ≡ Some u → logs.covers u (8 * w) ≡ true → old_word u (8 * w) ≡ Kept
    restored_kept k slot u inside within valid covering =
        let says : Says o mem views log decided x image survives whole k w u = slot_says o mem views log decided x image survives whole k slot w u inside within heap valid covering in
        says.was
        ∙ sym (kept_settled o mem views log decided x image w (λ j n j_inside other flies.
        let same : j ≡ k = one_writer o mem j k w x.sound (difference_writes j n j_inside flies other) says.writes in
        subst (λ i. loses image (views i) n ≡ true) (sym same) (says.loses_flight n (subst (λ i. flight (views i) ≡ Some n) same flies))))

    -- the lane's entries are sealed in the image, and one of them is of the word
    module _ (k : ℕ) (inside : k < o.lanes) (still : IsGrowing (views k).log.phase → ⊥) (of : is_final (views k).log.entries w ≡ true) where
      enterer : WritesUnder o mem k w
      enterer = entered_writes o mem views log decided x k w inside outside still of

      masked : All IsMasked (views k).log.entries
      masked = entries_masked (views k) (x.each_lane k inside).entries

      -- a change of the word is the lane's
      changes_it : (j : ℕ) (c : Change) → j < o.lanes → Contains (views j).changes c → c.word ≡ w → Contains (views k).changes c
      changes_it j c low there is =
          let writes : WritesUnder o mem j w =
          ⊎_elim (λ (logged : is_logged (views j) w ≡ true). recorded_writes o mem views log decided x j w low (logged_recorded (views j) w logged))
          (λ (redone : (is_redone (views j) w ≡ true) × (is_written (views j) w ≡ true)). redone_writes j low redone.0)
          (changer o mem views log decided x image survives w outside heap.living j c low there is) in
          subst (λ i. Contains (views i).changes c) (one_writer o mem j k w x.sound writes enterer) there

      -- none is, while the seal is stored or cleared
      seals_elsewhere : (before : ℕ) (c : Change) → SealChange (views k) before c → c.word ≡ w → ⊥
      seals_elsewhere before c fits is =
          let at = (x.each_lane k inside).lane.lane in let of = fits.of in
          ⊎_elim (λ (front : w < 512). omega arith) (λ (back : 512 + 1024 * o.lanes ≤ w). omega arith) outside

      -- each is of bits that an entry is of
      of_entries : (phase : Phase) → (views k).log.phase ≡ phase → HasSealed phase → (j : ℕ) (c : Change) → j < o.lanes → Contains (views j).changes c → c.word ≡ w → IsOfEntries (views k).log.entries c
      of_entries phase is sealed j c low there of_w = by_phase phase sealed (subst (ChangeFits (views k) c) is (fits_of o mem views log decided x k c inside (changes_it j c low there of_w))) where
        by_phase : (p : Phase) → HasSealed p → ChangeFits (views k) c p → IsOfEntries (views k).log.entries c
        by_phase Idle none fits = absurd none
        by_phase (Open slot pair) none fits = absurd none
        by_phase Drawn none fits = absurd none
        by_phase Sealing some fits = absurd (seals_elsewhere 0 c fits of_w)
        by_phase (Applying applied) some fits = fits.0.bits
        by_phase Clearing some fits = absurd (seals_elsewhere (length (views k).log.entries) c fits of_w)
        by_phase Retiring none fits = absurd none

      -- the lane knows the word where an entry ORs it
      known_or : (phase : Phase) → HasSealed phase → PhaseFits (Flies log decided k) (views k) phase → KnowsOrs (views k)
      known_or Idle sealed fits = absurd sealed
      known_or (Open slot pair) sealed fits = absurd sealed
      known_or Drawn sealed fits = absurd sealed
      known_or Sealing sealed fits = fits.known
      known_or (Applying applied) sealed fits = fits.known
      known_or Clearing sealed fits = fits.known
      known_or Retiring sealed fits = absurd sealed

      -- it is of 64 bits then, in the image too, and the entries leave it so
      small_there : HasSealed (views k).log.phase → is_or_entered (views k).log.entries w ≡ true → (slice_index image w < 2 ^ 64) × LeaveWord (views k).log.entries w
      small_there sealed or =
          let t = known_or (views k).log.phase sealed (x.each_lane k inside).phase w or in (
            word_small o mem views log decided x image survives (views k).log.entries w inside_image (of_entries (views k).log.phase refl sealed) or
                (subst (λ n. n < 2 ^ 64) (sym ((x.each_lane k inside).picture.known w t.0.known)) t.0.small),
            t.1,
          )

      -- the call is decided: what its entries make of the word is settled
      redoing_kept : (phase : Phase) → (views k).log.phase ≡ phase → HasSealed phase → is_redoing phase ≡ true → ((n : ℕ) → flight_in phase (views k).number ≡ Some n → ⊥) → made_final (views k).log.entries w (slice_index image w) ≡ Kept
      redoing_kept phase is sealed redoing rests =
          let redone : is_redone (views k) w ≡ true = and_from (is_redoing (views k).log.phase) (is_entered (views k).log.entries w) (ap is_redoing is ∙ redoing) of in
          let word = (x.each_lane k inside).redone w redone (redone_written k inside redone) in
          word.again (slice_index image w) (λ i small beside.
          word_beside o mem views log decided x image survives (views k).log.entries w inside_image (of_entries phase is sealed) i small beside
          ∙ redone_beside mem (settled o log decided) (views k) w masked word i small beside)
          ∙ sym (kept_settled o mem views log decided x image w (λ j n low other flies.
          let same : j ≡ k = one_writer o mem j k w x.sound (difference_writes j n low flies other) enterer in
          absurd (rests n (sym (ap (λ p. flight_in p (views k).number) is) ∙ subst (λ i. flight (views i) ≡ Some n) same flies))))

      -- while the seal is stored the word is as the call found it, or as it left it where it recorded it
      found_so : (views k).log.phase ≡ Sealing → slice_index image w ≡ mem (PoolWord w)
      found_so is =
          word_stays o mem views log decided x image survives w inside_image outside heap.living
          (λ j c low there of_w logs_it. seals_elsewhere 0 c (subst (ChangeFits (views k) c) is (fits_of o mem views log decided x k c inside (changes_it j c low there of_w))) of_w)

      settled_so : (views k).log.phase ≡ Sealing → is_recorded (views k).log.records w ≡ false → mem (PoolWord w) ≡ settled o log decided w
      settled_so is unrecorded = x.each_word w heap (λ j low. false_from_ne_true (is_in_log (views j) w) (λ there.
          let writes : WritesUnder o mem j w =
          ⊎_elim (λ (logged : is_logged (views j) w ≡ true). recorded_writes o mem views log decided x j w low (logged_recorded (views j) w logged))
          (λ (redone : is_redone (views j) w ≡ true). redone_writes j low redone) (or_cases (is_logged (views j) w) (is_redone (views j) w) there) in
          let same : j ≡ k = one_writer o mem j k w x.sound writes enterer in
          ⊎_elim (λ (logged : is_logged (views k) w ≡ true). false≢true (sym (unrecorded_unlogged (views k) w unrecorded) ∙ logged))
          (λ (redone : is_redone (views k) w ≡ true). false≢true (ap is_redoing (sym is) ∙ (and_parts (is_redoing (views k).log.phase) (is_entered (views k).log.entries w) redone).0))
          (or_cases (is_logged (views k) w) (is_redone (views k) w) (subst (λ i. is_in_log (views i) w ≡ true) same there))))

      -- what the entries make of the word is what it is to be
      redone_kept : (phase : Phase) → (views k).log.phase ≡ phase → HasSealed phase → PhaseFits (Flies log decided k) (views k) phase → logs.seal_word image k ≢ 0 → made_final (views k).log.entries w (slice_index image w) ≡ Kept
      redone_kept Idle is sealed fits some = absurd sealed
      redone_kept (Open slot pair) is sealed fits some = absurd sealed
      redone_kept Drawn is sealed fits some = absurd sealed
      redone_kept Sealing is sealed fits some =
          let at = (x.each_lane k inside).lane.lane in
          let deciding : not (eqb (logs.seal_word image (views k).lane) 0) ≡ true = not_from_false (eqb (logs.seal_word image (views k).lane) 0) (ne_eqb (logs.seal_word image (views k).lane) 0 (λ zero_seal. some (sym (ap (logs.seal_word image) at) ∙ zero_seal))) in
          let entered : is_final (pool_entries (views k)) w ≡ true = pool_entries-final (views k) w (elsewhere k inside) ∙ of in
          let makes : (z : ℕ) → mem (PoolWord w) ≡ z → made_final (pool_entries (views k)) w z ≡ made_final (views k).log.entries w (slice_index image w) =
          λ z same. pool_entries-makes (views k) w z (elsewhere k inside) ∙ ap (made_final (views k).log.entries w) (sym (found_so is ∙ same)) in
          sym (kept_new o mem views log decided x image k fits.number w inside (ap (is_deciding_in image (views k)) is ∙ deciding) fits.flying
          (difference-words (views k) w ∙ or_right (is_recorded (views k).log.records w) (is_final (pool_entries (views k)) w) entered)
          ∙ ⊎_elim (λ (recorded : is_recorded (views k).log.records w ≡ true).
          let t = record_of (views k) w recorded in
          difference-recorded (views k) w (settled o log decided w) recorded ∙ makes (slice_index (views k).words w) ((x.each_lane k inside).picture.known w (recorded_fits o mem views log decided x k w inside t).known))
          (λ (unrecorded : is_recorded (views k).log.records w ≡ false). difference-unrecorded (views k) w (settled o log decided w) unrecorded ∙ makes (settled o log decided w) (settled_so is unrecorded)) (cases_Bool (is_recorded (views k).log.records w)))
      redone_kept (Applying applied) is sealed fits some = redoing_kept (Applying applied) is tt refl (λ n flies. none-some n flies)
      redone_kept Clearing is sealed fits some = redoing_kept Clearing is tt refl (λ n flies. none-some n flies)
      redone_kept Retiring is sealed fits some = absurd sealed

      others_none : (j : ℕ) → j < o.lanes → j ≢ k → of_word w (logs.entries image j) ≡ []
      others_none j low other = no_other w j low (λ quiet of_other. other (one_writer o mem j k w x.sound (entered_writes o mem views log decided x j w low outside quiet of_other) enterer))

      crash_entered : HasSealed (views k).log.phase → logs.seal_word image k ≡ length (views k).log.entries → recovered image o.lanes w ≡ Kept
      crash_entered sealed full =
          let read = entries_read o mem views log decided x image survives k inside sealed full in
          redone_word image o.lanes w k (views k).log.entries read.0 inside read.2 read.1 (small_there sealed) of others_none
          ∙ redone_kept (views k).log.phase refl sealed (x.each_lane k inside).phase (some_sealed o mem views log decided x image survives k inside (views k).log.phase refl sealed full)

    crash_by_entry : list_any (λ j. is_some_entry (of_word w (logs.entries image j))) (range_with_len 0 o.lanes) ≡ true → recovered image o.lanes w ≡ Kept
    crash_by_entry some =
        let l = some_lane (λ j. is_some_entry (of_word w (logs.entries image j))) 0 o.lanes some in
        let inside : l.0 < o.lanes = omega (arith, l.2) in
        ⊎_elim (λ (none : logs.entries image l.0 ≡ []). absurd (false≢true (ap (λ es. is_some_entry (of_word w es)) (sym none) ∙ l.3)))
        (λ (sealed : HasSealed (views l.0).log.phase × (logs.seal_word image l.0 ≡ length (views l.0).log.entries)).
        ⊎_elim (λ (of : is_final (views l.0).log.entries w ≡ true). crash_entered l.0 inside (sealed_still (views l.0).log.phase sealed.0) of sealed.0 sealed.1)
        (λ (never : is_final (views l.0).log.entries w ≡ false).
        absurd (false≢true (ap is_some_entry (sym (no_other w l.0 inside (λ quiet of. false≢true (sym never ∙ of)))) ∙ l.3)))
        (cases_Bool (is_final (views l.0).log.entries w)))
        (entries_cases l.0 inside)

    pub crash_word : recovered image o.lanes w ≡ Kept
    crash_word =
        ⊎_elim crash_by_entry
        (λ (nobody : list_any (λ j. is_some_entry (of_word w (logs.entries image j))) (range_with_len 0 o.lanes) ≡ false).
        let none : NoEntry = λ k inside. no_entry (of_word w (logs.entries image k))
        (false_from_ne_true (is_some_entry (of_word w (logs.entries image k))) (λ there. false≢true (sym nobody ∙ lane_some (λ j. is_some_entry (of_word w (logs.entries image j))) o.lanes k inside there))) in
        recovered_unentered image o.lanes w Kept (unentered_word image o.lanes w none) restored_kept (plain none))
        (cases_Bool (list_any (λ j. is_some_entry (of_word w (logs.entries image j))) (range_with_len 0 o.lanes)))
