-- Fletcher's sum over the 32-bit halves of words: docs/FORMAT.md, "Words and sums".
use Rattle.std.specs.Prelude.{ℕ, ◌+◌, ◌*◌, ◌/◌, ◌%◌, ◌^◌, List, [], ◌∷◌, length, sum}
use Rattle.std.specs.List.{flat_map}

-- the halves of some words, the low half of each first
abbrev pub halves : List ℕ → List ℕ
halves words = flat_map (λ w. w % 2 ^ 32 ∷ w / 2 ^ 32 ∷ []) words

-- the sum of the running sums of a list: each number counts once for itself and once for each that follows
abbrev pub sum_of_sums : List ℕ → ℕ
sum_of_sums [] = 0
sum_of_sums (x ∷ xs) = (length xs + 1) * x + sum_of_sums xs

-- the sum of the halves below 2 ^ 32, and above it the sum of their running sums, each modulo 2 ^ 32
unfoldable pub sum64 : List ℕ → ℕ
sum64 words = sum_of_sums (halves words) % 2 ^ 32 * 2 ^ 32 + sum (halves words) % 2 ^ 32
