-- What a valid slot of an image says of the words that it covers: its lane writes them, they were settled so, and the lane's call is lost.
use Rattle.std.proofs.Common.{◌≡◌, ◌≢◌, ◌/◌, ◌⊎◌, ℕ, ◌+◌, ◌-◌, ◌*◌, ◌<◌, ◌≤◌, inl, inr, ⊎_elim, eqb, leb, ltb, Bool, true, false, not, ◌&&◌, Contains, List, [], length, slice_index, get_or, Some, refl, sym, ap, ◌∙◌, subst, arith}
use Rattle.std.proofs.lemmas.Bool.{cases_Bool, cases_lt, and_parts, and_from, false_from_ne_true, or_cases, or_from, leb-true, ltb-true, eqb-true, eq-eqb, ne_eqb, false≢true, not_from_false}
use Rattle.std.proofs.lemmas.Option.{none-some, same_Some, slice_get-get_or, slice_get_within}
use Rattle.std.proofs.lemmas.List.Folds.{Any-from_list_any}
use Rattle.pm_record.specs.Undo.{undo_of}
use Rattle.pm_record.specs.declared.undo.Undo.{Undo}
use Rattle.solo_view.specs.Area.{area_word, is_in_area}
use Rattle.solo_view.specs.declared.change.Change.{Change}
use Rattle.solo_view.specs.Changes.{is_in_line}
use Rattle.solo_view.specs.Held.{is_known}
use Rattle.solo_view.specs.Log.{Phase, Recorded}
use Rattle.solo_view.specs.Log.Phase.{Idle, Open, Drawn, Sealing, Applying, Clearing, Retiring}
use Rattle.solo_view.specs.View.{View}
use Rattle.pm_image.specs.Logs as logs
use Rattle.pm_image.specs.Logs.{generation, generation_word, seal_word, slot_line, undo_slot, old_word}
use Rattle.pm_image.specs.Steps.{valid_record}
use Rattle.solo_world.specs.Course.{flight_in, is_number}
use Rattle.solo_world.specs.Crash.{IsBeingWritten, IsWhole, NoneTorn, Survives, is_deciding_in}
use Rattle.solo_world.specs.Entries.{is_entered, is_redoing, is_redone}
use Rattle.solo_world.specs.Fits.{PhaseFits}
use Rattle.solo_world.specs.History.{Entry, Flies, settled}
use Rattle.solo_world.specs.Lawful.{CanRecord, CanRecordWord}
use Rattle.solo_world.specs.Memory.{Memory}
use Rattle.solo_world.specs.Opening.{IsLivingWord, Opening}
use Rattle.solo_world.specs.Records.{IsRecordAt, generation_of, covers, is_recorded, is_drained_slot, is_logged, spelled, records_generation, used_slots}
use Rattle.solo_world.specs.World.{Views, World}
use Rattle.solo_world.proofs.Plain.{redoing_still}
use Rattle.solo_world.proofs.CrashLogs.{ChangeFits, RecordOf, SealIs, entered_front, recorded_from, unrecorded_unlogged, whole_word, GenerationIs}
use Rattle.solo_world.proofs.CrashSpellings.{undo_from, undo_of-spelled, valid_from, valid_parts, covers_from, covers_back, old_from}
use Rattle.solo_world.proofs.CrashEntries.{generation_is}
use Rattle.solo_world.proofs.CrashRecords.{generation_unsealed}
use Rattle.solo_world.proofs.CrashWords.{recorded_fits, recorded_writes, behind_areas, entered_writes, fits_of, seal_is, slot_stays, written_behind}
use Rattle.solo_world.proofs.Exclusion.{WritesUnder, writes_under, one_writer}

-- where the image has the generation of the log's records, the lane's call in flight is lost
pub generation_loses : (image : List ℕ) (v : View) (n : ℕ) (phase : Phase) → 1 ≤ generation_of v → GenerationIs v (seal_word image v.lane) (generation image v.lane) phase → generation image v.lane ≡ records_generation phase v
    → (seal_word image v.lane ≡ 0 → generation image v.lane ≡ generation_word image v.lane) → (phase ≡ Retiring → seal_word image v.lane ≡ 0) → flight_in phase v.number ≡ Some n
    → (is_number v.number n && not (is_deciding_in image v phase)) ≡ true
generation_loses image v n Idle first is same plain zero_seal flight = absurd (none-some n flight)
generation_loses image v n (Open slot pair) first is same plain zero_seal flight = absurd (none-some n flight)
generation_loses image v n Drawn first is same plain zero_seal flight = and_from (is_number v.number n) true (ap (λ m. is_number m n) flight ∙ eq-eqb n n refl) refl
generation_loses image v n Sealing first is same plain zero_seal flight =
    and_from (is_number v.number n) (not (not (eqb (seal_word image v.lane) 0))) (ap (λ m. is_number m n) flight ∙ eq-eqb n n refl)
    (⊎_elim (λ (lost : (seal_word image v.lane ≡ 0) × (generation image v.lane ≡ generation_of v)). ap (λ b. not (not b)) (eq-eqb (seal_word image v.lane) 0 lost.0))
    (λ (kept : (seal_word image v.lane ≢ 0) × (generation image v.lane ≡ generation_of v + 1)). let next = kept.1 in absurd (omega arith)) is)
generation_loses image v n (Applying applied) first is same plain zero_seal flight = absurd (none-some n flight)
generation_loses image v n Clearing first is same plain zero_seal flight = absurd (none-some n flight)
generation_loses image v n Retiring first is same plain zero_seal flight =
    let word = plain (zero_seal refl) in
    and_from (is_number v.number n) (not (eqb (generation_word image v.lane) (generation_of v))) (ap (λ m. is_number m n) flight ∙ eq-eqb n n refl)
    (not_from_false (eqb (generation_word image v.lane) (generation_of v)) (ne_eqb (generation_word image v.lane) (generation_of v) (λ equal. omega arith)))

-- the image has at least the generation of the log's records
generation_from : (v : View) (seal g : ℕ) (phase : Phase) → 1 ≤ generation_of v → GenerationIs v seal g phase → records_generation phase v ≤ g
generation_from v seal g Idle first is = omega arith
generation_from v seal g (Open slot pair) first is = omega arith
generation_from v seal g Drawn first is = omega arith
generation_from v seal g Sealing first is =
    ⊎_elim (λ (lost : (seal ≡ 0) × (g ≡ generation_of v)). let same = lost.1 in omega arith) (λ (kept : (seal ≢ 0) × (g ≡ generation_of v + 1)). let next = kept.1 in omega arith) is
generation_from v seal g (Applying applied) first is = omega (arith, is)
generation_from v seal g Clearing first is = omega arith
generation_from v seal g Retiring first is = ⊎_elim (λ (same : g ≡ generation_of v). omega arith) (λ (before : g + 1 ≡ generation_of v). omega arith) is

-- while entries are applied or the seal is cleared no slot has a change
pub no_slot_change : (v : View) (slot : ℕ) → ((c : Change) → Contains v.changes c → c.word / 8 ≢ slot_line v.lane slot) → is_drained_slot v slot ≡ true
no_slot_change v slot none = not_from_false _ (false_from_ne_true _ (λ any. let t = Any-from_list_any (is_in_line (slot_line v.lane slot)) v.changes any in
    none t.1 (t.0, t.2, t.3) (eqb-true (t.1.word / 8) (slot_line v.lane slot) t.4)))

known_word : (v : View) (w : ℕ) → area_word v.lane + 1024 ≤ w → is_known v w ≡ true → Contains v.known w
known_word v w behind e =
    ⊎_elim (λ (area : is_in_area v.lane w ≡ true). absurd (let t = and_parts (leb (area_word v.lane) w) (ltb w (area_word v.lane + 1024)) area in let high = ltb-true w (area_word v.lane + 1024) t.1 in omega arith))
    (λ known. let t = Any-from_list_any (λ other. eqb other w) v.known known in subst (Contains v.known) (eqb-true t.1 w t.4) (t.0, t.2, t.3))
    (or_cases (is_in_area v.lane w) _ e)

can_record_word : (v : View) (r : Recorded) (w : ℕ) → CanRecord v r → covers r w ≡ true → CanRecordWord v w (slice_index r.old (w - r.word))
can_record_word v r w can of =
    let t = and_parts (leb r.word w) (ltb w (r.word + length r.old)) of in
    let low = leb-true r.word w t.0 in
    let high = ltb-true w (r.word + length r.old) t.1 in
    let same : r.word + (w - r.word) ≡ w = omega arith in
    subst (λ u. CanRecordWord v u (slice_index r.old (w - r.word))) same (can.each (w - r.word) (omega arith))

module _ (o : Opening) (mem : Memory) (views : Views) (log : List Entry) (decided : ℕ → Bool) (x : World o mem views log decided) where
  -- a record of these words was settled
  pub record HasSettled (k : ℕ) (r : Recorded) : Type 0 where
    pub most : length r.old ≤ 4
    pub writes : (w : ℕ) → covers r w ≡ true → WritesUnder o mem k w
    pub each : (w : ℕ) → IsLivingWord o w → covers r w ≡ true → slice_index r.old (w - r.word) ≡ settled o log decided w

  pub record_settled : (k slot : ℕ) (r : Recorded) → k < o.lanes → IsRecordAt (views k) slot r → HasSettled k r
  record_settled k slot r inside at = record {
    most = ((x.each_lane k inside).log.each slot r at).most;
    writes = λ w of. recorded_writes o mem views log decided x k w inside (recorded_from (views k) w slot r at of);
    each = λ w heap of. (recorded_fits o mem views log decided x k w inside (record { slot = slot; held = r; at = at; of = of })).before;
  }

  -- a slot that is being written is of a call that has sealed nothing
  unsealed_write : (k slot : ℕ) (phase : Phase) → k < o.lanes → slot < 64 → (views k).log.phase ≡ phase → PhaseFits (Flies log decided k) (views k) phase
      → ((c : Change) → Contains (views k).changes c → ChangeFits (views k) c phase) → IsBeingWritten (views k) slot → is_redoing phase ≡ false
  unsealed_write k slot Idle inside within is fits changes written = refl
  unsealed_write k slot (Open words pair) inside within is fits changes written = refl
  unsealed_write k slot Drawn inside within is fits changes written = refl
  unsealed_write k slot Sealing inside within is fits changes written = refl
  unsealed_write k slot (Applying applied) inside within is fits changes written =
      let at = (x.each_lane k inside).lane.lane in
      absurd (⊎_elim (λ (undrained : is_drained_slot (views k) slot ≡ false). false≢true (sym undrained ∙ no_slot_change (views k) slot (λ c there same.
      let f = changes c there in
      ⊎_elim (λ written_word. let behind = written_behind o mem views log decided x k c.word inside written_word in omega arith) (λ (own : c.word ≡ area_word (views k).lane). omega arith)
      (whole_word (views k) (records_generation (Applying applied) (views k)) c.word f.1 (entered_front applied (views k).log.entries c.word f.0.of)))))
      (λ (making : (length (views k).log.records ≤ slot) × (slot < used_slots (views k).log.phase (views k))).
      let low = making.0 in let high = making.1 in let same = ap (λ p. used_slots p (views k)) is in omega arith) written)
  unsealed_write k slot Clearing inside within is fits changes written =
      absurd (⊎_elim (λ (undrained : is_drained_slot (views k) slot ≡ false). false≢true (sym undrained ∙ no_slot_change (views k) slot (λ c there same. let of = (changes c there).of in omega arith)))
      (λ (making : (length (views k).log.records ≤ slot) × (slot < used_slots (views k).log.phase (views k))).
      let low = making.0 in let high = making.1 in let same = ap (λ p. used_slots p (views k)) is in omega arith) written)
  unsealed_write k slot Retiring inside within is fits changes written = refl

  outside_areas : (w : ℕ) → IsLivingWord o w → (w < 512) ⊎ (512 + 1024 * o.lanes ≤ w)
  outside_areas w heap = ⊎_elim (λ (root : w ≡ 64). inl (omega arith)) (λ (zone : (512 + 1024 * o.lanes ≤ w) × (w < 512 + 1024 * o.lanes + 33280 * o.zones)). inr zone.0) heap.heap

  -- also one that could be written now
  making_settled : (k : ℕ) (r : Recorded) → k < o.lanes → is_redoing (views k).log.phase ≡ false → CanRecord (views k) r → HasSettled k r
  making_settled k r inside early can = record {
    most = can.most;
    writes = λ w of. writes_under o mem k (views k) w (x.each_lane k inside).locks (can_record_word (views k) r w can of).own;
    each = λ w heap of.
        let one = can_record_word (views k) r w can of in
        let writes = writes_under o mem k (views k) w (x.each_lane k inside).locks one.own in
        let behind = behind_areas o mem views log decided x k w writes in
        let at = (x.each_lane k inside).lane.lane in
        let known = known_word (views k) w (omega arith) one.known in
        sym one.present ∙ (sym ((x.each_lane k inside).picture.known w known)
        ∙ x.each_word w heap (λ j j_inside. or_from (is_logged (views j) w) (is_redone (views j) w)
        (unrecorded_unlogged (views j) w
        (⊎_elim (λ (other : is_recorded (views j).log.records w ≡ true).
        let same : j ≡ k = one_writer o mem j k w x.sound (recorded_writes o mem views log decided x j w j_inside other) writes in
        absurd (false≢true (sym one.new ∙ subst (λ i. is_recorded (views i).log.records w ≡ true) same other)))
        (λ (none : is_recorded (views j).log.records w ≡ false). none) (cases_Bool (is_recorded (views j).log.records w))))
        (false_from_ne_true (is_redone (views j) w) (λ redone.
        let t = and_parts (is_redoing (views j).log.phase) (is_entered (views j).log.entries w) redone in
        let same : j ≡ k = one_writer o mem j k w x.sound (entered_writes o mem views log decided x j w j_inside (outside_areas w heap) (redoing_still (views j).log.phase t.0) t.1) writes in
        false≢true (sym early ∙ subst (λ i. is_redoing (views i).log.phase ≡ true) same t.0)))));
  }

  module _ (image : List ℕ) (survives : Survives o mem views image) (whole : NoneTorn o views image) where
    -- the slot spells a record of settled words, in the generation of the log's records
    record Spells (k slot : ℕ) : Type 0 where
      held : Recorded
      was : HasSettled k held
      spells : undo_slot image k slot ≡ spelled (records_generation (views k).log.phase (views k)) held

    written_spells : (k slot : ℕ) (u : Undo) → k < o.lanes → slot < 64 → valid_record image k slot ≡ Some u → IsBeingWritten (views k) slot → Spells k slot
    written_spells k slot u inside within valid written =
        let w : IsWhole (views k) image slot = whole k slot u inside within written valid in
        record {
          held = w.held;
          was = ⊎_elim (λ (at : IsRecordAt (views k) slot w.held). record_settled k slot w.held inside at)
              (λ (can : (length (views k).log.records ≤ slot) × CanRecord (views k) w.held). making_settled k w.held inside
              (unsealed_write k slot (views k).log.phase inside within refl (x.each_lane k inside).phase (λ c there. fits_of o mem views log decided x k c inside there) written) can.1) w.lawful;
          spells = ap (λ j. undo_slot image j slot) (sym (x.each_lane k inside).lane.lane) ∙ w.spells;
        }

    -- a drained slot has a record of the log, or is of an earlier generation
    drained_spells : (k slot : ℕ) (u : Undo) → k < o.lanes → slot < 64 → valid_record image k slot ≡ Some u → is_drained_slot (views k) slot ≡ true → Spells k slot
    drained_spells k slot u inside within valid drained =
        let stays = slot_stays o mem views log decided x image survives k slot inside within drained in
        ⊎_elim
        (λ (stored : slot < length (views k).log.records).
        let r : Recorded = get_or (views k).log.records slot (record { word = 0; old = [] }) in
        let at = slice_get-get_or (views k).log.records slot (record { word = 0; old = [] }) stored in
        record { held = r; was = record_settled k slot r inside at; spells = stays ∙ (x.each_lane k inside).log.stored slot r at })
        (λ (past : length (views k).log.records ≤ slot).
        ⊎_elim (λ (making : slot < used_slots (views k).log.phase (views k)). written_spells k slot u inside within valid (inr (past, making)))
        (λ (unused : used_slots (views k).log.phase (views k) ≤ slot).
        let p = valid_parts image k slot u valid in
        let old = (x.each_lane k inside).log.stale slot u unused within (ap undo_of (sym stays) ∙ p.stands) in
        let now : u.generation ≡ generation image k = p.present in
        let least = generation_from (views k) (seal_word image k) (generation image k) (views k).log.phase (x.each_lane k inside).first_generation (generation_is o mem views log decided x image survives k inside) in
        absurd (omega arith))
        (cases_lt slot (used_slots (views k).log.phase (views k))))
        (cases_lt slot (length (views k).log.records))

    valid_spells : (k slot : ℕ) (u : Undo) → k < o.lanes → slot < 64 → valid_record image k slot ≡ Some u → Spells k slot
    valid_spells k slot u inside within valid =
        ⊎_elim (λ (drained : is_drained_slot (views k) slot ≡ true). drained_spells k slot u inside within valid drained)
        (λ (undrained : is_drained_slot (views k) slot ≡ false). written_spells k slot u inside within valid (inl undrained))
        (cases_Bool (is_drained_slot (views k) slot))

    -- what a valid slot says of a word
    pub record Says (k w : ℕ) (u : Undo) : Type 0 where
      pub writes : WritesUnder o mem k w
      pub was : old_word u (8 * w) ≡ settled o log decided w
      pub loses_flight : (n : ℕ) → flight_in (views k).log.phase (views k).number ≡ Some n → (is_number (views k).number n && not (is_deciding_in image (views k) (views k).log.phase)) ≡ true

    -- the lane of a valid slot writes each word that it covers
    pub slot_writes : (k slot w : ℕ) (u : Undo) → k < o.lanes → slot < 64 → valid_record image k slot ≡ Some u → logs.covers u (8 * w) ≡ true → WritesUnder o mem k w
    slot_writes k slot w u inside within valid covering =
        let s = valid_spells k slot u inside within valid in
        let p = valid_parts image k slot u valid in
        let g : ℕ = records_generation (views k).log.phase (views k) in
        let same : u ≡ undo_from g s.held = same_Some u (undo_from g s.held) (sym p.stands ∙ (ap undo_of s.spells ∙ undo_of-spelled g s.held s.was.most)) in
        s.was.writes w (covers_back g s.held w (ap (λ z. logs.covers z (8 * w)) (sym same) ∙ covering))

    pub slot_says : (k slot w : ℕ) (u : Undo) → k < o.lanes → slot < 64 → IsLivingWord o w → valid_record image k slot ≡ Some u → logs.covers u (8 * w) ≡ true → Says k w u
    slot_says k slot w u inside within heap valid covering =
        let s = valid_spells k slot u inside within valid in
        let p = valid_parts image k slot u valid in
        let g : ℕ = records_generation (views k).log.phase (views k) in
        let same : u ≡ undo_from g s.held = same_Some u (undo_from g s.held) (sym p.stands ∙ (ap undo_of s.spells ∙ undo_of-spelled g s.held s.was.most)) in
        let of : covers s.held w ≡ true = covers_back g s.held w (ap (λ z. logs.covers z (8 * w)) (sym same) ∙ covering) in
        let now : generation image k ≡ g = sym p.present ∙ ap (λ (z : Undo). z.generation) same in
        let at : k ≡ (views k).lane = sym (x.each_lane k inside).lane.lane in
        record {
          writes = s.was.writes w of;
          was = ap (λ z. old_word z (8 * w)) same ∙ (old_from g s.held w of ∙ s.was.each w heap of);
          loses_flight = λ n flight. generation_loses image (views k) n (views k).log.phase (x.each_lane k inside).first_generation
              (subst (λ j. GenerationIs (views k) (seal_word image j) (generation image j) (views k).log.phase) at (generation_is o mem views log decided x image survives k inside))
              (ap (generation image) (sym at) ∙ now)
              (λ none. generation_unsealed image (views k).lane none)
              (λ retiring. ap (seal_word image) (sym at) ∙ subst (SealIs (views k) (seal_word image k)) retiring (seal_is o mem views log decided x image survives k inside)) flight;
        }

    -- a drained record of the generation that the image has is valid
    pub drained_valid : (k : ℕ) (w : ℕ) → k < o.lanes → (t : RecordOf (views k) w) → is_drained_slot (views k) t.slot ≡ true → generation image k ≡ records_generation (views k).log.phase (views k)
        → ((slot : ℕ) (u : Undo) → slot < 64 → valid_record image k slot ≡ Some u → logs.covers u (8 * w) ≡ false) → ⊥
    drained_valid k w inside t drained same none =
        let g : ℕ = records_generation (views k).log.phase (views k) in
        let room = (x.each_lane k inside).log.most in
        let within = slice_get_within (views k).log.records t.slot t.held t.at in
        let low : t.slot < 64 = omega arith in
        let most = ((x.each_lane k inside).log.each t.slot t.held t.at).most in
        let stands : undo_slot image k t.slot ≡ spelled g t.held = slot_stays o mem views log decided x image survives k t.slot inside low drained ∙ (x.each_lane k inside).log.stored t.slot t.held t.at in
        let valid = valid_from image k t.slot (undo_from g t.held) (ap undo_of stands ∙ undo_of-spelled g t.held most) (sym same) in
        false≢true (sym (none t.slot (undo_from g t.held) low valid) ∙ covers_from g t.held w most t.of)
