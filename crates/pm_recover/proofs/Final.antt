-- To recover once more changes generations alone, and nothing where no slot is torn.
use Rattle.std.proofs.Common.{◌≡◌, ◌≢◌, ⊎_elim, inl, inr, ℕ, ◌-◌, ◌*◌, ◌/◌, ◌%◌, ◌<◌, ◌≤◌, ◌+◌, ◌&&◌, ◌||◌, false, not, ltb, List, slice_index, sym, ◌∙◌, ap, subst, arith}
use Rattle.std.proofs.lemmas.Bool.{and_right, cases_eq, cases_lt, or_from}
use Rattle.std.proofs.lemmas.List.{ext_get_or}
use Rattle.pm_image.specs.Logs.{area_word, generation, generation_word, is_sealed, slot_line, undo_slot}
use Rattle.pm_recover.specs.Recovery.{HasNoTornSlot, IsRecovered, generation_after, has_record, has_torn_slot, is_raised}
use Rattle.pm_recover.specs.Steps.{HasSoundLogs}
use Rattle.pm_recover.proofs.Strays.{none_stray, slot_word}
use Rattle.pm_recover.proofs.Clean.{after_kept, clean_has_none, not_less, torn_as_before}
use Rattle.pm_recover.proofs.Meaning.{HasCleanLogs, as_they_stand, clean_logs}
use Rattle.pm_recover.proofs.Slots.{generation_stands, unrecorded}

not_raised : (image : List ℕ) (lane : ℕ) → has_record image lane ≡ false → has_torn_slot image lane ≡ false → is_raised image lane ≡ false
unfolding is_raised
not_raised image lane none whole =
    and_right (not (is_sealed image lane)) (has_record image lane || (ltb (generation image lane) 4611686018427387904 && has_torn_slot image lane))
    (or_from (has_record image lane) (ltb (generation image lane) 4611686018427387904 && has_torn_slot image lane) none
    (and_right (ltb (generation image lane) 4611686018427387904) (has_torn_slot image lane) whole))

same_generation : (before after again : List ℕ) (lanes lane : ℕ) → HasSoundLogs before lanes → HasNoTornSlot before lanes → IsRecovered before after lanes → IsRecovered after again lanes
    → lane < lanes → generation_word again lane ≡ generation_word after lane
same_generation before after again lanes lane sound whole first second inside =
    let logs : HasCleanLogs after lanes = clean_logs before after lanes sound first in
    second.generations lane inside
    ∙ after_kept after lane (not_raised after lane (unrecorded after lane (clean_has_none after lane (logs.clean lane inside)))
    (torn_as_before before after lanes lane first inside ∙ whole.whole lane inside))
    ∙ generation_stands after lane (logs.clean lane inside).unsealed

-- of a clean log each slot stays, and each other word of the area
module _ (after again : List ℕ) (lanes : ℕ) (logs : HasCleanLogs after lanes) (second : IsRecovered after again lanes) where
  slot_stays : (lane slot : ℕ) → lane < lanes → slot < 64 → undo_slot again lane slot ≡ undo_slot after lane slot
  slot_stays lane slot inside few =
      second.slots lane slot inside few
      ∙ none_stray (generation_after after lane) (undo_slot after lane slot)
      (λ u read.
      let old = (logs.clean lane inside).stale slot u few read in
      let more = not_less after lane in
      let stands = generation_stands after lane (logs.clean lane inside).unsealed in
      omega (arith, old, more, stands))

  pub in_area : (lane i : ℕ) → lane < lanes → area_word lane + 1 < i → i < area_word (lane + 1) → slice_index again i ≡ slice_index after i
  in_area lane i inside from to = ⊎_elim
      (λ (low : i < area_word lane + 136). second.areas lane i inside from to (λ slot few of. let first = of.0 in omega (arith, low, first)))
      (λ (behind : area_word lane + 136 ≤ i). ⊎_elim
      (λ (slots : i < area_word lane + 648).
      let slot : ℕ = (i - area_word lane - 136) / 8 in
      let k : ℕ = (i - area_word lane - 136) % 8 in
      let here : 8 * slot_line lane slot + k ≡ i = omega (arith, behind) in
      let few : slot < 64 = omega (arith, slots, behind) in
      subst (λ w. slice_index again w ≡ slice_index after w) here
      (sym (slot_word again lane slot k (omega arith)) ∙ (ap (λ (ws : List ℕ). slice_index ws k) (slot_stays lane slot inside few) ∙ slot_word after lane slot k (omega arith))))
      (λ (past : area_word lane + 648 ≤ i). second.areas lane i inside from to (λ slot few of. let last = of.1 in omega (arith, past, few, last)))
      (cases_lt i (area_word lane + 648)))
      (cases_lt i (area_word lane + 136))

-- no other word changes in any case
pub others_same : (before after again : List ℕ) (lanes i : ℕ) → HasSoundLogs before lanes → IsRecovered before after lanes → IsRecovered after again lanes
    → ((lane : ℕ) → lane < lanes → i ≢ area_word lane) → slice_index again i ≡ slice_index after i
others_same before after again lanes i sound first second other =
    let logs : HasCleanLogs after lanes = clean_logs before after lanes sound first in
    ⊎_elim
    (λ (page : i < 512). second.words i (inl page) ∙ as_they_stand after lanes i logs)
    (λ (from : 512 ≤ i).
    ⊎_elim
    (λ (to : i < area_word lanes).
    let inside : (i - 512) / 1024 < lanes = omega arith in
    let apart : i ≢ area_word ((i - 512) / 1024) = other ((i - 512) / 1024) inside in
    ⊎_elim
    (λ (seal : i ≡ area_word ((i - 512) / 1024) + 1).
    ap (slice_index again) seal ∙ second.seals ((i - 512) / 1024) inside ∙ sym (first.seals ((i - 512) / 1024) inside) ∙ ap (slice_index after) (sym seal))
    (λ (behind : i ≢ area_word ((i - 512) / 1024) + 1). in_area after again lanes logs second ((i - 512) / 1024) i inside (omega arith) (omega arith))
    (cases_eq i (area_word ((i - 512) / 1024) + 1)))
    (λ (behind : area_word lanes ≤ i). second.words i (inr behind) ∙ as_they_stand after lanes i logs)
    (cases_lt i (area_word lanes)))
    (cases_lt i 512)

-- where no slot is torn, nor do generations
pub again_same : (before after again : List ℕ) (lanes : ℕ) → HasSoundLogs before lanes → HasNoTornSlot before lanes → IsRecovered before after lanes → IsRecovered after again lanes
    → again ≡ after
again_same before after again lanes sound whole first second =
    ext_get_or 0 again after second.as_long (λ i h.
    ⊎_elim
    (λ (here : i ≡ area_word ((i - 512) / 1024)).
    ⊎_elim
    (λ (inside : (i - 512) / 1024 < lanes).
    ap (slice_index again) here ∙ same_generation before after again lanes ((i - 512) / 1024) sound whole first second inside ∙ sym (ap (slice_index after) here))
    (λ (none : lanes ≤ (i - 512) / 1024). others_same before after again lanes i sound first second (λ k near same. omega arith))
    (cases_lt ((i - 512) / 1024) lanes))
    (λ (apart : i ≡ area_word ((i - 512) / 1024) → ⊥).
    let other : i ≢ area_word ((i - 512) / 1024) = apart in
    others_same before after again lanes i sound first second (λ k near same. let number : k ≡ (i - 512) / 1024 = omega arith in other (same ∙ ap area_word number)))
    (cases_eq i (area_word ((i - 512) / 1024))))
