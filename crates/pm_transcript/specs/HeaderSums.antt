-- The sums of a pair of header lines: docs/FORMAT.md, "Header page".
use Rattle.std.specs.Prelude.{ℕ, List, drop, slice_set, take}
use Rattle.pm_words.specs.Sums.{sum64}

-- the sum of the name line, which is the second of both
abbrev pub with_name_sum : List ℕ → List ℕ
with_name_sum words = slice_set words 6 (sum64 (drop 8 words))

-- and then that of the seven words before the last of the header line
abbrev pub with_sums : List ℕ → List ℕ
with_sums words = slice_set (with_name_sum words) 7 (sum64 (take 7 (with_name_sum words)))
