-- An image whose records are put back, whose entries are applied and whose logs are ended is recovered.
use Rattle.std.proofs.Common.{◌≡◌, ◌≢◌, ◌⊎◌, ⊎_elim, inl, inr, ℕ, ◌*◌, ◌/◌, ◌%◌, ◌<◌, ◌≤◌, ◌+◌, List, [], ◌∷◌, length, slice_index, Option, None, sym, ◌∙◌, ap, subst, arith}
use Rattle.std.specs.List.{flat_map, range_with_len}
use Rattle.std.proofs.lemmas.Bool.{cases_lt}
use Rattle.std.proofs.lemmas.List.{get_or_past}
use Rattle.pm_record.specs.declared.redo.Redo.{Redo}
use Rattle.pm_record.specs.declared.undo.Undo.{Undo}
use Rattle.pm_image.specs.Logs.{all_applied, area_word, entries, entries_for, generation_word, record_for, records, undo_slot, recovered, recovered_at, recovered_by, recovered_words, restored}
use Rattle.pm_image.proofs.InPlace.{recovered_in_place}
use Rattle.pm_image.proofs.WholeImage.{length-recovered_words}
use Rattle.pm_recover.specs.Recovery.{IsOfSlot, IsOutside, IsRecovered, generation_after, without_stray}
use Rattle.pm_recover.specs.Steps.{AreApplied, AreCleared, AreRestored, AreSettled, HasApartLogs, HasSoundLogs}
use Rattle.pm_recover.proofs.Areas.{same_after}
use Rattle.pm_recover.proofs.Strays.{slot_kept}
use Rattle.pm_recover.proofs.PutBack.{SameAreas, front_of_all, first_for, same_lane}

-- where no entry is for a word, records alone recover it
pub by_records : (image : List ℕ) (lanes i : ℕ) → entries_for image lanes (8 * i) ≡ [] → recovered image lanes i ≡ restored (first_for (flat_map (records image) (range_with_len 0 lanes)) i) (8 * i) (slice_index image i)
unfolding recovered record_for
by_records image lanes i none =
    ap (λ (es : List Redo). recovered_by es (first_for (flat_map (records image) (range_with_len 0 lanes)) i) (8 * i) (slice_index image i)) none

-- entries applied to the image's word, where no record covers it or none of them is for it
by_entries : (es : List Redo) (o : Option Undo) (place word now : ℕ) → now ≡ restored o place word → (es ≡ []) ⊎ (o ≡ None) → all_applied es now ≡ recovered_by es o place word
by_entries [] o place word now is apart = is
by_entries (e ∷ es) o place word now is (inl none) = absurd cc
by_entries (e ∷ es) o place word now is (inr none) = ap (all_applied (e ∷ es)) (is ∙ ap (λ (r : Option Undo). restored r place word) none)

-- a word past the end is 0 in every image
pub past_end : (image : List ℕ) (lanes i : ℕ) → length image ≤ i → recovered_at image lanes i ≡ 0
past_end image lanes i past = get_or_past (recovered_words image lanes) i 0 (subst (λ (n : ℕ). n ≤ i) (sym (length-recovered_words image lanes)) past)

word_made : (old now then : List ℕ) (lanes i : ℕ) → HasApartLogs old lanes → AreRestored (flat_map (records old) (range_with_len 0 lanes)) old now → AreApplied (flat_map (entries old) (range_with_len 0 lanes)) lanes now then
    → i < length old → IsOutside lanes i → slice_index then i ≡ recovered old lanes i
unfolding recovered entries_for record_for
word_made old now then lanes i apart put_back applied inside outside =
    applied.outside i (subst (λ (n : ℕ). i < n) (sym put_back.as_long) inside) outside
    ∙ by_entries (entries_for old lanes (8 * i)) (record_for old lanes (8 * i)) (8 * i) (slice_index old i) (slice_index now i) (put_back.each i inside) (apart.apart i inside)

word_recovered : (old now then : List ℕ) (lanes i : ℕ) → HasApartLogs old lanes → AreRestored (flat_map (records old) (range_with_len 0 lanes)) old now → AreApplied (flat_map (entries old) (range_with_len 0 lanes)) lanes now then
    → IsOutside lanes i → slice_index then i ≡ recovered_at old lanes i
word_recovered old now then lanes i apart put_back applied outside =
    ⊎_elim
    (λ (inside : i < length old). word_made old now then lanes i apart put_back applied inside outside ∙ sym (recovered_in_place old lanes i inside))
    (λ (past : length old ≤ i). get_or_past then i 0 (subst (λ (n : ℕ). n ≤ i) (sym (applied.as_long ∙ put_back.as_long)) past) ∙ sym (past_end old lanes i past))
    (cases_lt i (length old))

outside_areas : (lanes i : ℕ) → IsOutside lanes i → (lane : ℕ) → lane < lanes → (i ≢ area_word lane) × (i ≢ area_word lane + 1)
outside_areas lanes i (inl before) lane inside = ((λ here. omega arith), (λ here. omega arith))
outside_areas lanes i (inr behind) lane inside = ((λ here. omega arith), (λ here. omega arith))

-- what is restored and applied has the same areas
pub same_areas : (old now then : List ℕ) (lanes : ℕ) → HasSoundLogs old lanes → AreRestored (flat_map (records old) (range_with_len 0 lanes)) old now → AreApplied (flat_map (entries old) (range_with_len 0 lanes)) lanes now then
    → SameAreas old then lanes
same_areas old now then lanes sound put_back applied =
    let front : SameAreas old now lanes = front_of_all old now lanes sound put_back in
    record { as_long = applied.as_long ∙ put_back.as_long; same = λ i from to. applied.inside i from to ∙ front.same i from to }

-- a slot's word is none of those outside of the areas, nor a generation or a seal
apart_from_slots : (lanes i : ℕ) → IsOutside lanes i → (n : ℕ) → n < 64 * lanes → IsOfSlot (n / 64) (n % 64) i → ⊥
apart_from_slots lanes i (inl before) n near of = let low = of.0 in omega (arith, before, low)
apart_from_slots lanes i (inr behind) n near of = let high = of.1 in omega (arith, behind, near, high)

module _ (old now then mid new : List ℕ) (lanes : ℕ) (sound : HasSoundLogs old lanes) (apart : HasApartLogs old lanes) (put_back : AreRestored (flat_map (records old) (range_with_len 0 lanes)) old now)
    (applied : AreApplied (flat_map (entries old) (range_with_len 0 lanes)) lanes now then) (settled : AreSettled then mid lanes) (cleared : AreCleared mid new (64 * lanes)) where
  front : SameAreas old then lanes
  front = same_areas old now then lanes sound put_back applied

  -- the words of the areas but for generations and seals, before any slot was cleared
  area_kept : (lane i : ℕ) → lane < lanes → area_word lane + 1 < i → i < area_word (lane + 1) → slice_index mid i ≡ slice_index old i
  area_kept lane i inside from to = settled.others i (λ k near. ((λ here. omega arith), (λ here. omega arith))) ∙ front.same i (omega arith) (omega arith)

  generation_kept : (lane : ℕ) → lane < lanes → generation_word mid lane ≡ generation_after old lane
  generation_kept lane inside = settled.generations lane inside ∙ sym (same_after old then lane (same_lane old then lanes lane sound front inside))

  slot_before : (lane slot : ℕ) → lane < lanes → slot < 64 → undo_slot mid lane slot ≡ undo_slot old lane slot
  slot_before lane slot inside few =
      let areas = sound.has_lanes.areas in
      slot_kept old mid lane slot (settled.as_long ∙ applied.as_long ∙ put_back.as_long) (omega (arith, areas, inside, few))
      (λ i of. let from = of.0 in let to = of.1 in area_kept lane i inside (omega (arith, from)) (omega (arith, to, few)))

  -- the slot by its number
  slot_after : (lane slot n : ℕ) → lane < lanes → slot < 64 → n / 64 ≡ lane → n % 64 ≡ slot → undo_slot new lane slot ≡ without_stray (generation_after old lane) (undo_slot old lane slot)
  slot_after lane slot n inside few of_lane of_slot =
      subst (λ l. undo_slot new l slot ≡ without_stray (generation_word mid l) (undo_slot mid l slot)) of_lane
      (subst (λ k. undo_slot new (n / 64) k ≡ without_stray (generation_word mid (n / 64)) (undo_slot mid (n / 64) k)) of_slot (cleared.slots n (omega (arith, of_lane, inside))))
      ∙ (λ j. without_stray (generation_kept lane inside j) (slot_before lane slot inside few j))

  pub recovered_made : IsRecovered old new lanes
  recovered_made = record {
    as_long = cleared.as_long ∙ settled.as_long ∙ applied.as_long ∙ put_back.as_long;
    words = λ i outside. cleared.others i (apart_from_slots lanes i outside) ∙ settled.others i (outside_areas lanes i outside) ∙ word_recovered old now then lanes i apart put_back applied outside;
    areas = λ lane i inside from to none.
        cleared.others i (λ n near of.
        let low = of.0 in let high = of.1 in
        let here : n / 64 ≡ lane = omega (arith, low, high, from, to) in
        none (n % 64) (omega arith) (subst (λ l. IsOfSlot l (n % 64) i) here of))
        ∙ area_kept lane i inside from to;
    slots = λ lane slot inside few. slot_after lane slot (64 * lane + slot) inside few (omega (arith, few)) (omega (arith, few));
    seals = λ lane inside. cleared.others (area_word lane + 1) (λ n near of. let low = of.0 in let high = of.1 in omega (arith, low, high)) ∙ settled.seals lane inside;
    generations = λ lane inside. cleared.others (area_word lane) (λ n near of. let low = of.0 in let high = of.1 in omega (arith, low, high)) ∙ generation_kept lane inside;
  }
