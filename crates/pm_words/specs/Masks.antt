-- Which bits of a word are set.
use Rattle.std.specs.Prelude.{◌≡◌, ℕ, ◌+◌, ◌<◌, ◌≤◌}
use Rattle.std.specs.Int.{bit_at}

-- the bits of the word from `from` on, `count` of them, are set, and no other
pub record HasBits (word from count : ℕ) : Type 0 where
  pub inside : (k : ℕ) → from ≤ k → k < from + count → bit_at word k ≡ 1
  pub below : (k : ℕ) → k < from → bit_at word k ≡ 0
  pub above : (k : ℕ) → from + count ≤ k → bit_at word k ≡ 0
