-- Words without bits, from the first one on: for the look-up of a word that has some.
use Rattle.std.proofs.Common.{◌≡◌, ◌≢◌, ℕ, ◌+◌, ◌/◌, ◌%◌, ◌<◌, ◌≤◌, ⊎_elim, min, Bool, false, List, length, slice_index, get_or, sym, subst, ◌∙◌, arith}
use Rattle.std.proofs.lemmas.Bool.{false≢true, cases_lt}
use Rattle.pm_world.specs.OwnedBits.{AreClear, AreClearFrom, AreFlagged}

pub clear_start : (words : List ℕ) (from : ℕ) → AreClearFrom words from from
clear_start words from i low high inside = absurd (omega (arith, low, high))

pub clear_more : (words : List ℕ) (from j : ℕ) → AreClearFrom words from j → slice_index words j ≡ 0 → AreClearFrom words from (j + 1)
clear_more words from j so_far one i low high inside = ⊎_elim
    (λ (l : i < j). so_far i low l inside)
    (λ (l : j ≤ i). let e : j ≡ i = omega (arith, l, high) in subst (λ k. slice_index words k ≡ 0) e one)
    (cases_lt i j)

pub clear_to : (words : List ℕ) (from to j : ℕ) → AreClearFrom words from j → min to (length words) ≤ j → AreClearFrom words from to
clear_to words from to j so_far past i low high inside = so_far i low (omega (arith, past, high, inside)) inside

-- a group of pages is looked at, or not flagged
pub group_looked : (runs : List ℕ) (from : ℕ) → AreClearFrom runs 0 from → AreClearFrom runs from (from + 64) → AreClearFrom runs 0 (from + 64)
group_looked runs from so_far more i low high inside = ⊎_elim
    (λ (l : i < from). so_far i low l inside)
    (λ (l : from ≤ i). more i l high inside)
    (cases_lt i from)

zero_or : (n : ℕ) → (n ≢ 0 → ⊥) → n ≡ 0
zero_or n never = ⊎_elim (λ (l : 0 < n). absurd (never (λ e. absurd (omega (arith, l, e))))) (λ (l : n ≤ 0). omega (arith, l)) (cases_lt 0 n)

pub group_unflagged : (runs : List ℕ) (groups : List Bool) (from : ℕ) → AreFlagged runs groups → from % 64 ≡ 0 → get_or groups (from / 64) false ≡ false → AreClearFrom runs 0 from → AreClearFrom runs 0 (from + 64)
group_unflagged runs groups from are whole none so_far = group_looked runs from so_far (λ i low high inside.
    let same : i / 64 ≡ from / 64 = omega (arith, low, high, whole) in
    zero_or (slice_index runs i) (λ some. absurd (false≢true (sym (subst (λ g. get_or groups g false ≡ false) (sym same) none) ∙ are.flagged i inside some))))

pub all_looked : (runs : List ℕ) (from : ℕ) → length runs ≤ from → AreClearFrom runs 0 from → AreClear runs
all_looked runs from past so_far i inside = so_far i (omega arith) (omega (arith, inside, past)) inside
