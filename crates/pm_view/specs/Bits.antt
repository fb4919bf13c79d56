-- Some bits of a word.
use Rattle.std.specs.Prelude.{ℕ, ◌-◌, ◌^◌, bit_and, bit_or}
use Rattle.std.specs.Int.{bit_not, w64}

-- all bits of a word
abbrev pub all_bits : ℕ
all_bits = 2 ^ 64 - 1

-- the word with the bits under the mask made those of `bits`
abbrev pub with_bits : ℕ → ℕ → ℕ → ℕ
with_bits mask bits word = bit_or (bit_and word (bit_not w64 mask)) bits
