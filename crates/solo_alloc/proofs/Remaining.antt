-- The bits of chunks that lie one after another are of these alone.
use Rattle.std.proofs.Common.{◌≡◌, ⊎_elim, ℕ, ◌+◌, ◌-◌, ◌*◌, ◌^◌, ◌<◌, ◌≤◌, sym, ap, ◌∙◌, add-zero, arith}
use Rattle.std.specs.Int.{bit_at}
use Rattle.std.proofs.Math.Nat.{mul_comm}
use Rattle.std.proofs.lemmas.Bool.{cases_lt}
use Rattle.std.proofs.lemmas.Nat.{pow_pos}
use Rattle.std.proofs.lemmas.Nat.Bits.{bit_at-zero, bit_at_cat_high, bit_at_cat_low, bit_at_ones_above}
use Rattle.solo_chunks.specs.Chunks.{chunk_bits}

module _ (first count : ℕ) where
  as_sum : chunk_bits first count ≡ (2 ^ count - 1) * 2 ^ first + 0
  as_sum = mul_comm (2 ^ first) (2 ^ count - 1) ∙ sym (add-zero ((2 ^ count - 1) * 2 ^ first))

  bit_below : (i : ℕ) → i < first → bit_at (chunk_bits first count) i ≡ 0
  bit_below i low = ap (λ n. bit_at n i) as_sum ∙ bit_at_cat_low (2 ^ count - 1) first 0 i low ∙ bit_at-zero i

  bit_above : (i : ℕ) → first + count ≤ i → bit_at (chunk_bits first count) i ≡ 0
  bit_above i high =
      let low : first ≤ i = omega arith in
      let past : count ≤ i - first = omega arith in
      ap (λ n. bit_at n i) as_sum ∙ bit_at_cat_high (2 ^ count - 1) first 0 i (pow_pos first) low ∙ bit_at_ones_above count (i - first) past

  pub set_inside : (i : ℕ) → bit_at (chunk_bits first count) i ≡ 1 → (first ≤ i) × (i < first + count)
  set_inside i set = ⊎_elim
      (λ (before : i < first). let zero = bit_below i before in absurd (omega (arith, set, zero)))
      (λ (from : first ≤ i). ⊎_elim
      (λ (inside : i < first + count). (from, inside))
      (λ (behind : first + count ≤ i). let zero = bit_above i behind in absurd (omega (arith, set, zero)))
      (cases_lt i (first + count)))
      (cases_lt i first)
