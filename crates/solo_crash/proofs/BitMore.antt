-- A bitmap with one bit more, and one with a bit less.
use Rattle.std.proofs.Common.{◌≡◌, ◌≢◌, ⊎_elim, ℕ, ◌+◌, ◌-◌, ◌*◌, ◌^◌, ◌<◌, ◌≤◌, sym, ◌∙◌, ap, arith}
use Rattle.std.specs.Prelude.{bit_and, bit_or}
use Rattle.std.specs.Int.{bit_at, w64}
use Rattle.std.proofs.lemmas.Bool.{cases_lt}
use Rattle.std.proofs.lemmas.Nat.{and_le_l, or_lt}
use Rattle.std.proofs.lemmas.Nat.Bits.{bit_at-lt, bit_at-zero, bit_at-pow_other, bit_at-pow_same, bit_at_above, bit_at_and, bit_at_not, bit_at_or}
use Rattle.std.proofs.Math.Nat.{le-mul_of_pos_right, mul_comm}
use Rattle.std.proofs.Math.Pow.{pow-lt}
use Rattle.pm_layout.specs.Sizes.{blocks_of}
use Rattle.pm_image.proofs.Rooms.{run_fits}
use Rattle.solo_crash.proofs.Classes.{run_has_lines}

-- a run has at most 64 blocks
pub index_small : (lines index : ℕ) → index < blocks_of lines → index < 64
index_small lines index inside =
    let fits : 1 + lines * index + lines ≤ 64 = run_fits lines index inside in
    let some : 1 ≤ lines = run_has_lines lines index inside in
    let more : index ≤ index * lines = le-mul_of_pos_right index some in
    let turned : index * lines ≡ lines * index = mul_comm index lines in
    omega arith

-- b has the bit, which a has not, and else the bits of a
pub record HasBitMore (a b index : ℕ) : Type 0 where
  pub is_clear : bit_at a index ≡ 0
  pub is_set : bit_at b index ≡ 1
  pub others : (i : ℕ) → i ≢ index → bit_at b i ≡ bit_at a i

pub set_bit : (a b index : ℕ) → bit_at a index ≡ 0 → b ≡ bit_or a (2 ^ index) → HasBitMore a b index
set_bit a b index clear is = record {
  is_clear = clear;
  is_set = ap (λ (n : ℕ). bit_at n index) is ∙ bit_at_or a (2 ^ index) index ∙ (let same = bit_at-pow_same index in omega arith);
  others = λ i other. ap (λ (n : ℕ). bit_at n i) is ∙ bit_at_or a (2 ^ index) i ∙ (let none = bit_at-pow_other index i other in omega arith);
}

-- a bit that is cleared of a word of 64 bits
pub cleared_bit : (a b index : ℕ) → index < 64 → b < 2 ^ 64 → bit_at b index ≡ 1 → a ≡ bit_and b (2 ^ 64 - 1 - 2 ^ index) → HasBitMore a b index
cleared_bit a b index low small set is = record {
  is_clear = ap (λ (n : ℕ). bit_at n index) is ∙ bit_at_and b (2 ^ 64 - 1 - 2 ^ index) index
      ∙ (let same = bit_at-pow_same index in let other = bit_at_not w64 (2 ^ index) index fits low in omega arith);
  is_set = set;
  others = λ i other. ⊎_elim
      (λ (within : i < 64). sym (ap (λ (n : ℕ). bit_at n i) is ∙ bit_at_and b (2 ^ 64 - 1 - 2 ^ index) i
      ∙ (let none = bit_at-pow_other index i other in let mask = bit_at_not w64 (2 ^ index) i fits within in let bound = bit_at-lt b i in omega arith)))
      (λ (beyond : 64 ≤ i). let none = bit_at_above b 64 i small beyond in
      none ∙ sym (ap (λ (n : ℕ). bit_at n i) is ∙ bit_at_and b (2 ^ 64 - 1 - 2 ^ index) i ∙ omega arith))
      (cases_lt i 64);
}
  where
    fits : 2 ^ index < 2 ^ 64
    fits = pow-lt low

-- a bitmap that is the bit alone
pub only_bit : (b index : ℕ) → b ≡ 2 ^ index → HasBitMore 0 b index
only_bit b index is = record {
  is_clear = bit_at-zero index;
  is_set = ap (λ (n : ℕ). bit_at n index) is ∙ bit_at-pow_same index;
  others = λ i other. ap (λ (n : ℕ). bit_at n i) is ∙ bit_at-pow_other index i other ∙ sym (bit_at-zero i);
}

-- each stays below 2 ^ n
pub set_small : (a index n : ℕ) → index < n → a < 2 ^ n → bit_or a (2 ^ index) < 2 ^ n
set_small a index n low small = or_lt n a (2 ^ index) small (pow-lt low)

pub cleared_small : (b mask n : ℕ) → b < 2 ^ n → bit_and b mask < 2 ^ n
cleared_small b mask n small = let less = and_le_l b mask in omega arith
