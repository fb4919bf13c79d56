-- A run of set bits.
use Rattle.std.proofs.Common.{◌≡◌, ℕ, ◌+◌, ◌-◌, ◌*◌, ◌/◌, ◌%◌, ◌^◌, ◌<◌, ◌≤◌, ◌∙◌, ap, arith, pow-add}
use Rattle.std.proofs.Math.Nat.{mul-sub, mul_comm, one-le-pow}
use Rattle.std.proofs.lemmas.Nat.{shl_whole}
use Rattle.std.proofs.lemmas.Nat.Bits.{ones_shr, bit_at_mask_inside, bit_at_mask_below, bit_at_mask_above}
use Rattle.pm_words.specs.Masks.{HasBits}

-- `MAX >> (64 - count) << from`
pub ones_moved : (from count : ℕ) → from + count ≤ 64 → (2 ^ 64 - 1) / 2 ^ (64 - count) * 2 ^ from % 2 ^ 64 ≡ 2 ^ (from + count) - 2 ^ from
ones_moved from count fits =
    let left : 64 - (64 - count) ≡ count = omega arith in
    let ones : (2 ^ 64 - 1) / 2 ^ (64 - count) ≡ 2 ^ count - 1 = ones_shr 64 (64 - count) (omega arith) ∙ ap (λ (k : ℕ). 2 ^ k - 1) left in
    let below : 2 ^ count - 1 < 2 ^ count = omega (arith, one-le-pow count 2 (omega arith)) in
    let whole : (2 ^ count - 1) * 2 ^ from ≡ 2 ^ (from + count) - 2 ^ from = mul_comm (2 ^ count - 1) (2 ^ from) ∙ mul-sub (2 ^ from) (2 ^ count) 1 ∙ rw (pow-add 2 from count) (omega arith) in
    ap (λ (n : ℕ). n * 2 ^ from % 2 ^ 64) ones ∙ shl_whole (2 ^ count - 1) count from 64 below (omega arith) ∙ whole

pub HasBits-ones : (from count : ℕ) → HasBits (2 ^ (from + count) - 2 ^ from) from count
HasBits-ones from count = record {
  inside = λ k above below. bit_at_mask_inside from (from + count) k above below;
  below = λ k h. bit_at_mask_below from (from + count) k h;
  above = λ k h. bit_at_mask_above from (from + count) k h;
}
