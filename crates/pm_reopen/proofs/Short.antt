-- A recovery makes fewer calls than a number of 64 bits counts.
use Rattle.std.proofs.Common.{◌≡◌, ⊎_elim, ℕ, zero, suc, ◌+◌, ◌*◌, ◌/◌, ◌^◌, ◌<◌, ◌≤◌, Bool, true, false, cond, List, [], ◌∷◌, ◌++◌, length, length-append, map, refl, sym, ◌∙◌, ap, subst, arith}
use Rattle.std.specs.List.{filter, flat_map, list_any, range_with_len}
use Rattle.std.proofs.lemmas.Bool.{cases_Bool}
use Rattle.std.proofs.lemmas.List.{length-map}
use Rattle.std.proofs.lemmas.List.FromFn.{length-range_with_len}
use Rattle.pm_record.specs.declared.redo.Redo.{Redo}
use Rattle.pm_objects.specs.declared.pool.PoolView.{PoolView}
use Rattle.pm_image.specs.Logs.{entries, is_sealed, records, seal_word, slot_line, undo_slot}
use Rattle.pm_image.specs.Means.{IsMeaning}
use Rattle.pm_image.proofs.Redoing.{entries_unsealed, sealed_few}
use Rattle.pm_recover.specs.Recovery.{generation_after, is_raised, is_stray}
use Rattle.pm_recover.specs.Steps.{HasSoundLogs}
use Rattle.pm_recover.proofs.Sound.{sound_if_meaning}
use Rattle.pm_reopen.specs.Plan.{MemoryCall, cleared, cleared_slot, drained, lane_plan, lines_of, log_end, persisted, plan, restores, strays, writes, written_back, zeros}
use Rattle.pm_reopen.specs.Plan.MemoryCall.{Change, Flush, Drain}
use Rattle.pm_reopen.proofs.Counting.{changes_in-map}
use Rattle.pm_reopen.proofs.Inside.{fewer_sound}
use Rattle.pm_reopen.proofs.LogEnds.{ends_nothing, ends_raised, ends_sealed}
use Rattle.pm_reopen.proofs.Parts.{entries_by_call}
use Rattle.pm_reopen.proofs.Rooms.{few_applied, records_few}

-- ---- lists

filter_short : (p : ℕ → Bool) (xs : List ℕ) → length (filter p xs) ≤ length xs
filter_short p [] = omega arith
filter_short p (x ∷ xs) = one (p x) (filter_short p xs) where
  one : (b : Bool) → length (filter p xs) ≤ length xs → length (cond b (x ∷ filter p xs) (filter p xs)) ≤ suc (length xs)
  one true rest = omega (arith, rest)
  one false rest = omega (arith, rest)

-- parts of so many each
parts_short : (f : ℕ → List MemoryCall) (most a n : ℕ) → ((k : ℕ) → a ≤ k → k < a + n → length (f k) ≤ most) → length (flat_map f (range_with_len a n)) ≤ most * n
parts_short f most a zero each = omega arith
parts_short f most a (suc n) each =
    let here = each a (omega arith) (omega arith) in
    let rest = parts_short f most (a + 1) n (λ k from to. each k (omega (arith, from)) (omega (arith, to))) in
    let both = length-append (f a) (flat_map f (range_with_len (a + 1) n)) in
    let more : most * suc n ≡ most * n + most = grind arith in
    omega (arith, here, rest, both, more)

-- ---- the parts of a lane

back_short : (lines : ℕ) (es : List Redo) → length (written_back lines es) ≤ lines + 1
unfolding lines_of
back_short lines [] = omega arith
back_short lines (e ∷ es) =
    let test : ℕ → Bool = λ line. list_any (λ (f : Redo). Rattle.std.proofs.Common.eqb (f.place / 64) line) (e ∷ es) in
    let few = filter_short test (range_with_len 0 lines) in
    let range = length-range_with_len 0 lines in
    let flushes = length-map (lines_of lines (e ∷ es)) Flush in
    let both = length-append (map Flush (lines_of lines (e ∷ es))) (Drain ∷ []) in
    omega (arith, few, range, flushes, both)

persisted_short : (lines : ℕ) (es : List Redo) → length (persisted lines es) ≤ length es + (lines + 1)
persisted_short lines es =
    let changes = length-map es Change in
    let back = back_short lines es in
    let both = length-append (map Change es) (written_back lines es) in
    omega (arith, changes, back, both)

entries_short : (image : List ℕ) (lane : ℕ) → length (entries image lane) ≤ 64
entries_short image lane = ⊎_elim
    (λ (sealed : is_sealed image lane ≡ true).
    let few = sealed_few image lane sealed in
    let applied = few_applied image lane (seal_word image lane) in
    let calls = ap Rattle.pm_reopen.proofs.Counting.changes_in (entries_by_call image lane sealed) in
    let all = changes_in-map (entries image lane) in
    omega (arith, few, applied, calls, all))
    (λ (unsealed : is_sealed image lane ≡ false). let none = ap (λ (es : List Redo). length es) (entries_unsealed image lane unsealed) in omega (arith, none))
    (cases_Bool (is_sealed image lane))

writes_short : (image : List ℕ) (lane : ℕ) → HasSoundLogs image (lane + 1) → length (writes image lane) ≤ 320
unfolding writes
writes_short image lane sound =
    let restored = records_few image lane sound in
    let all = changes_in-map (flat_map restores (records image lane)) in
    let applied = entries_short image lane in
    let both = length-append (flat_map restores (records image lane)) (entries image lane) in
    omega (arith, restored, all, applied, both)

slot_nine : (lane slot : ℕ) → length (cleared_slot lane slot) ≡ 9
slot_nine lane slot =
    let changes = length-map (zeros (slot_line lane slot)) Change in
    let both = length-append (map Change (zeros (slot_line lane slot))) (Flush (slot_line lane slot) ∷ []) in
    omega (arith, changes, both)

slots_short : (lane : ℕ) (slots : List ℕ) → length (flat_map (cleared_slot lane) slots) ≡ 9 * length slots
slots_short lane [] = refl
slots_short lane (slot ∷ slots) =
    let here = slot_nine lane slot in
    let rest = slots_short lane slots in
    let both = length-append (cleared_slot lane slot) (flat_map (cleared_slot lane) slots) in
    omega (arith, here, rest, both)

drained_short : (slots : List ℕ) → length (drained slots) ≤ 1
drained_short [] = omega arith
drained_short (slot ∷ slots) = omega arith

strays_short : (image : List ℕ) (lane : ℕ) → length (strays image lane) ≤ 64
unfolding strays
strays_short image lane =
    let few = filter_short (λ slot. is_stray (generation_after image lane) (undo_slot image lane slot)) (range_with_len 0 64) in
    let range = length-range_with_len 0 64 in
    omega (arith, few, range)

cleared_short : (image : List ℕ) (lane : ℕ) → length (cleared lane (strays image lane)) ≤ 577
cleared_short image lane =
    let few = strays_short image lane in
    let slots = slots_short lane (strays image lane) in
    let last = drained_short (strays image lane) in
    let both = length-append (flat_map (cleared_slot lane) (strays image lane)) (drained (strays image lane)) in
    omega (arith, few, slots, last, both)

end_short : (image : List ℕ) (lane : ℕ) → length (log_end image lane) ≤ 1
end_short image lane = ⊎_elim
    (λ (sealed : is_sealed image lane ≡ true). let one = ap (λ (es : List Redo). length es) (ends_sealed image lane sealed) in omega (arith, one))
    (λ (unsealed : is_sealed image lane ≡ false). ⊎_elim
    (λ (raised : is_raised image lane ≡ true). let one = ap (λ (es : List Redo). length es) (ends_raised image lane unsealed raised) in omega (arith, one))
    (λ (kept : is_raised image lane ≡ false). let none = ap (λ (es : List Redo). length es) (ends_nothing image lane unsealed kept) in omega (arith, none))
    (cases_Bool (is_raised image lane)))
    (cases_Bool (is_sealed image lane))

lane_short : (image : List ℕ) (lane : ℕ) → HasSoundLogs image (lane + 1) → length (lane_plan image lane) ≤ 300000
unfolding lane_plan
lane_short image lane sound =
    let lines : ℕ = length image / 8 in
    let small = sound.has_lanes.small in
    let first = persisted_short lines (writes image lane) in
    let changes = writes_short image lane sound in
    let second = cleared_short image lane in
    let third = persisted_short lines (log_end image lane) in
    let end = end_short image lane in
    let later = length-append (cleared lane (strays image lane)) (persisted lines (log_end image lane)) in
    let all = length-append (persisted lines (writes image lane)) (cleared lane (strays image lane) ++ persisted lines (log_end image lane)) in
    omega (arith, small, first, changes, second, third, end, later, all)

pub plan_short : (image : List ℕ) (pool : PoolView) → IsMeaning image pool → length (plan image pool.lanes) < 2 ^ 64
unfolding plan
plan_short image pool means =
    let sound : HasSoundLogs image pool.lanes = sound_if_meaning image pool means in
    let few = sound.has_lanes.lanes_fit in
    let all = parts_short (lane_plan image) 300000 0 pool.lanes (λ k from to. lane_short image k (fewer_sound image pool.lanes (k + 1) sound (omega (arith, to)))) in
    omega (arith, few, all)
