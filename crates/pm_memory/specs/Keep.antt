-- The choice that a number stands for: docs/FORMAT.md, "Keep".
use Rattle.std.specs.Prelude.{ℕ, zero, suc, ◌+◌, ◌*◌, ◌/◌, ◌%◌, ◌^◌, ◌==◌, if◌then◌else◌, List, [], length, take, sum_by, count_by, slice_index_or}
use Rattle.std.specs.List.{list_any, range_with_len}
use Rattle.pm_view.specs.declared.change.Change.{Change}
use Rattle.pm_memory.specs.Changes.{changes_of}
use Rattle.pm_memory.specs.Survivors.{Choice, IsImage}

-- the number after x
unfoldable pub next_number : ℕ → ℕ
next_number x = (x * 6364136223846793005 + 1442695040888963407) % 2 ^ 64

-- the n-th number after the seed
unfoldable pub nth_number : ℕ → ℕ → ℕ
nth_number seed zero = seed
nth_number seed (suc n) = next_number (nth_number seed n)

-- how many words below w have changes of the lane
abbrev pub touched_below : ℕ → List Change → ℕ
touched_below w changes = count_by (λ u. list_any (λ (c : Change). c.word == u) changes) (range_with_len 0 w)

-- how many pairs of a lane and a word that it changed come before this one: lanes rising, then
-- words
abbrev pub pairs_before : ℕ → List (List Change) → ℕ → ℕ → ℕ
pairs_before size lanes lane w = sum_by (touched_below size) (take lane lanes) + touched_below w (slice_index_or lanes lane [])

-- 0 keeps no change, 1 all; else each pair has a number of its own, of which the high bits say how
-- many of its n changes are kept, 0 to n
abbrev pub kept_of : ℕ → ℕ → ℕ → ℕ
kept_of keep draws n = if keep == 0 then 0 else if keep == 1 then n else nth_number keep (draws + 1) / 2 ^ 33 % (n + 1)

-- the choice of this number, in a memory of so many words
abbrev pub kept : ℕ → ℕ → List (List Change) → Choice
kept keep size lanes lane w = kept_of keep (pairs_before size lanes lane w) (length (changes_of w (slice_index_or lanes lane [])))

-- the image that the choice of this number leaves
abbrev pub IsKeptImage : ℕ → List ℕ → List (List Change) → List ℕ → Type 0
IsKeptImage keep words lanes image = IsImage (kept keep (length words) lanes) words lanes image
