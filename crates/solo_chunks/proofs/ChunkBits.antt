-- The bits of chunks that lie one after another, and a word that has none of them, or one.
use Rattle.std.proofs.Common.{◌≡◌, ◌≢◌, ◌⊎◌, ⊎_elim, ℕ, zero, suc, ◌+◌, ◌-◌, ◌*◌, ◌/◌, ◌%◌, ◌^◌, ◌<◌, ◌≤◌, bit_and, refl, sym, ap, ◌∙◌, inl, inr, add-zero, arith}
use Rattle.std.specs.Int.{bit_at}
use Rattle.std.proofs.Math.Nat.{mod-eq_of_lt, mul_comm, pow-le-pow_right}
use Rattle.std.proofs.lemmas.Bool.{cases_lt}
use Rattle.std.proofs.lemmas.Nat.{pow-add, pow_pos}
use Rattle.std.proofs.lemmas.Nat.Bits.{bit_at-lt, bit_at-zero, bit_at_and, bit_at_cat_high, bit_at_cat_low, bit_at_ones, bit_at_ones_above, ones_shr, same_from_bits}
use Rattle.solo_chunks.specs.Chunks.{chunk_bits}
use Rattle.solo_chunks.specs.Looking.{IsOneSet}

module _ (first count : ℕ) where
  as_sum : chunk_bits first count ≡ (2 ^ count - 1) * 2 ^ first + 0
  as_sum = mul_comm (2 ^ first) (2 ^ count - 1) ∙ sym (add-zero ((2 ^ count - 1) * 2 ^ first))

  some_power : 0 < 2 ^ first
  some_power = pow_pos first

  pub bit_inside : (i : ℕ) → first ≤ i → i < first + count → bit_at (chunk_bits first count) i ≡ 1
  bit_inside i low high =
      let inside : i - first < count = omega arith in
      ap (λ n. bit_at n i) as_sum ∙ bit_at_cat_high (2 ^ count - 1) first 0 i some_power low ∙ bit_at_ones count (i - first) inside

  bit_below : (i : ℕ) → i < first → bit_at (chunk_bits first count) i ≡ 0
  bit_below i low = ap (λ n. bit_at n i) as_sum ∙ bit_at_cat_low (2 ^ count - 1) first 0 i low ∙ bit_at-zero i

  bit_above : (i : ℕ) → first + count ≤ i → bit_at (chunk_bits first count) i ≡ 0
  bit_above i high =
      let low : first ≤ i = omega arith in
      let past : count ≤ i - first = omega arith in
      ap (λ n. bit_at n i) as_sum ∙ bit_at_cat_high (2 ^ count - 1) first 0 i some_power low ∙ bit_at_ones_above count (i - first) past

  module _ (word : ℕ) where
    pub clear_inside : bit_and word (chunk_bits first count) ≡ 0 → (i : ℕ) → first ≤ i → i < first + count → bit_at word i ≡ 0
    clear_inside none i low high =
        let both = bit_at_and word (chunk_bits first count) i in
        let zero = ap (λ n. bit_at n i) none ∙ bit_at-zero i in
        let one = bit_inside i low high in
        omega (arith, both, zero, one)

    -- what is clear in each of them has no bit of them
    none_inside : ((i : ℕ) → first ≤ i → i < first + count → bit_at word i ≡ 0) → bit_and word (chunk_bits first count) ≡ 0
    none_inside clear = same_from_bits (bit_and word (chunk_bits first count)) 0 (λ i. each i ∙ sym (bit_at-zero i)) where
      each : (i : ℕ) → bit_at (bit_and word (chunk_bits first count)) i ≡ 0
      each i =
          let both = bit_at_and word (chunk_bits first count) i in
          ⊎_elim
          (λ (before : i < first). let zero = bit_below i before in omega (arith, both, zero))
          (λ (from : first ≤ i). ⊎_elim
          (λ (inside : i < first + count). let zero = clear i from inside in omega (arith, both, zero))
          (λ (behind : first + count ≤ i). let zero = bit_above i behind in omega (arith, both, zero))
          (cases_lt i (first + count)))
          (cases_lt i first)

zero_or_one : (n : ℕ) → n < 2 → (n ≡ 0) ⊎ (n ≡ 1)
zero_or_one zero low = inl refl
zero_or_one (suc zero) low = inr refl
zero_or_one (suc (suc n)) low = absurd (omega (arith, low))

abbrev IsClear : ℕ → ℕ → ℕ → Type 0
IsClear word first count = (i : ℕ) → first ≤ i → i < first + count → bit_at word i ≡ 0

clear_more : (word first n : ℕ) → IsClear word first n → bit_at word (first + n) ≡ 0 → IsClear word first (suc n)
clear_more word first n clear here i low high = ⊎_elim
    (λ (before : i < first + n). clear i low before)
    (λ (last : first + n ≤ i). let is : first + n ≡ i = omega arith in ap (bit_at word) (sym is) ∙ here)
    (cases_lt i (first + n))

-- each of them is clear in the word, or one is set
clear_or_set : (word first count : ℕ) → IsClear word first count ⊎ IsOneSet word first count
clear_or_set word first zero = inl (λ i low high. absurd (omega arith))
clear_or_set word first (suc n) = ⊎_elim
    (λ (clear : IsClear word first n). ⊎_elim
    (λ (none : bit_at word (first + n) ≡ 0). inl (clear_more word first n clear none))
    (λ (one : bit_at word (first + n) ≡ 1). inr (record { chunk = first + n; low = omega arith; high = omega arith; set = one }))
    (zero_or_one (bit_at word (first + n)) (bit_at-lt word (first + n))))
    (λ (one : IsOneSet word first n). inr (record { chunk = one.chunk; low = one.low; high = omega arith; set = one.set }))
    (clear_or_set word first n)

pub one_set : (word first count : ℕ) → bit_and word (chunk_bits first count) ≢ 0 → IsOneSet word first count
one_set word first count some = ⊎_elim
    (λ (clear : IsClear word first count). absurd (some (none_inside first count word clear)))
    (λ (one : IsOneSet word first count). one)
    (clear_or_set word first count)

less_one : (p q : ℕ) → 0 < q → p * (q - 1) + p ≡ p * q
less_one p zero some = absurd (omega (arith, some))
less_one p (suc q) some = let less : suc q - 1 ≡ q = omega arith in rw less (omega arith)

module _ (first count : ℕ) (within : first + count ≤ 64) where
  pub bits_small : chunk_bits first count < 2 ^ 64
  bits_small =
      let split = pow-add 2 first count in
      let less = less_one (2 ^ first) (2 ^ count) (pow_pos count) in
      let few = pow_pos first in
      let most : 2 ^ (first + count) ≤ 2 ^ 64 = pow-le-pow_right (omega arith) within in
      omega (arith, split, less, few, most)

  -- all ones, but for so many at either end
  pub bits_shifted : (2 ^ 64 - 1) / 2 ^ (64 - count) * 2 ^ first % 2 ^ 64 ≡ chunk_bits first count
  bits_shifted =
      let back : 64 - (64 - count) ≡ count = omega arith in
      ap (λ n. n * 2 ^ first % 2 ^ 64) (ones_shr 64 (64 - count) (omega arith) ∙ ap (λ k. 2 ^ k - 1) back)
      ∙ ap (λ n. n % 2 ^ 64) (mul_comm (2 ^ count - 1) (2 ^ first)) ∙ mod-eq_of_lt bits_small
