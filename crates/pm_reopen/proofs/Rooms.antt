-- No part of a lane's recovery makes more than 512 changes.
use Rattle.std.proofs.Common.{◌≡◌, ℕ, ◌+◌, ◌*◌, ◌<◌, ◌≤◌, Bool, true, false, cond, List, [], ◌∷◌, map, Option, Some, None, refl, sym, ◌∙◌, ap, arith}
use Rattle.std.specs.List.{flat_map, range_with_len}
use Rattle.std.specs.Option.{option_to_list}
use Rattle.std.proofs.lemmas.List.FromFn.{length-map-range_with_len}
use Rattle.pm_record.specs.Redo.{redo_of}
use Rattle.pm_record.specs.declared.redo.Redo.{Redo}
use Rattle.pm_record.specs.declared.undo.Undo.{Undo}
use Rattle.pm_image.specs.Logs.{entry_pair, records, slot_line}
use Rattle.pm_image.specs.Steps.{valid_record}
use Rattle.pm_recover.specs.Steps.{HasSoundLogs}
use Rattle.pm_reopen.specs.Plan.{cleared_slot, restores, zeros}
use Rattle.pm_reopen.specs.Plan.MemoryCall.{Change, Flush}
use Rattle.pm_reopen.proofs.Counting.{changes_in, changes_in-append, changes_in-map, parts_many}
use Rattle.pm_reopen.proofs.Parts.{entry_calls, of_none, of_one, records_by_slot, slot_calls}

restores_many : (u : Undo) → changes_in (map Change (restores u)) ≡ u.count
restores_many u = changes_in-map (restores u) ∙ length-map-range_with_len _ 0 u.count

slot_few : (image : List ℕ) (lane slot : ℕ) → HasSoundLogs image (lane + 1) → slot < 64 → changes_in (slot_calls image lane slot) ≤ 4
unfolding changes_in
slot_few image lane slot sound inside = go (valid_record image lane slot) refl where
  go : (o : Option Undo) → valid_record image lane slot ≡ o → changes_in (slot_calls image lane slot) ≤ 4
  go None is = let same = ap changes_in (sym (of_none (valid_record image lane slot) is)) in omega (arith, same)
  go (Some u) is =
      let few : u.count ≤ 4 = (sound.restorable lane slot u (omega arith) inside is).few in
      let same : changes_in (slot_calls image lane slot) ≡ u.count = ap changes_in (sym (of_one (valid_record image lane slot) u is)) ∙ restores_many u in
      omega (arith, same, few)

pub few_restored : (image : List ℕ) (lane k : ℕ) → HasSoundLogs image (lane + 1) → k ≤ 64 → changes_in (flat_map (slot_calls image lane) (range_with_len 0 k)) ≤ 4 * k
few_restored image lane k sound most =
    parts_many (slot_calls image lane) (λ n. 4 * n) k (λ j near. let few = slot_few image lane j sound (omega (arith, near, most)) in omega (arith, few))

pub records_few : (image : List ℕ) (lane : ℕ) → HasSoundLogs image (lane + 1) → changes_in (map Change (flat_map restores (records image lane))) ≤ 256
records_few image lane sound =
    let few = few_restored image lane 64 sound (omega arith) in
    let same = ap changes_in (records_by_slot image lane) in
    omega (arith, few, same)

entry_few : (image : List ℕ) (lane i : ℕ) → changes_in (entry_calls image lane i) ≤ 1
unfolding changes_in
entry_few image lane i = go (redo_of (entry_pair image lane i)) where
  go : (o : Option Redo) → changes_in (map Change (option_to_list o)) ≤ 1
  go None = omega arith
  go (Some e) = omega arith

pub few_applied : (image : List ℕ) (lane k : ℕ) → changes_in (flat_map (entry_calls image lane) (range_with_len 0 k)) ≤ k
few_applied image lane k = parts_many (entry_calls image lane) (λ n. n) k (λ j near. let few = entry_few image lane j in omega (arith, few))

-- ---- slots

pub zeros_many : (line : ℕ) → changes_in (map Change (zeros line)) ≡ 8
zeros_many line = changes_in-map (zeros line)

slot_eight : (lane slot : ℕ) → changes_in (cleared_slot lane slot) ≡ 8
unfolding changes_in
slot_eight lane slot = changes_in-append (map Change (zeros (slot_line lane slot))) (Flush (slot_line lane slot) ∷ []) ∙ ap (λ (n : ℕ). n + 0) (zeros_many (slot_line lane slot))

chosen_eight : (b : Bool) (lane slot : ℕ) → changes_in (cond b (cleared_slot lane slot) []) ≤ 8
unfolding changes_in
chosen_eight true lane slot = let eight = slot_eight lane slot in omega (arith, eight)
chosen_eight false lane slot = omega arith

pub few_cleared : (p : ℕ → Bool) (lane k : ℕ) → changes_in (flat_map (λ slot. cond (p slot) (cleared_slot lane slot) []) (range_with_len 0 k)) ≤ 8 * k
few_cleared p lane k =
    parts_many (λ slot. cond (p slot) (cleared_slot lane slot) []) (λ n. 8 * n) k (λ j near. let few = chosen_eight (p j) lane j in omega (arith, few))
