-- What a memory call makes is formed, and what taking it back does to a bit.
use Rattle.std.proofs.Common.{◌≡◌, ⊎_elim, ℕ, ◌-◌, ◌^◌, ◌<◌, cond, eqb, min, max, bit_and, sym, ap, ◌∙◌, arith, eq-eqb, ne_eqb, ◌≢◌}
use Rattle.std.specs.Int.{bit_at, bit_not, w64}
use Rattle.std.specs.Int.Bits.{and_zero_l}
use Rattle.std.proofs.lemmas.Bool.{cases_eq, cond-true, cond-false}
use Rattle.std.proofs.lemmas.Nat.Bits.{bit_at_and, bit_at_or, bit_at_not, bit_at-lt, same_from_bits}
use Rattle.solo_view.specs.declared.change.Change.{Change}
use Rattle.solo_view.specs.Changes.{IsFormed, or_change, and_change, taken_back}

-- a mask twice is the mask once
pub masked_again : (bits mask : ℕ) → bit_and (bit_and bits mask) mask ≡ bit_and bits mask
masked_again bits mask = same_from_bits (bit_and (bit_and bits mask) mask) (bit_and bits mask) (λ i. let outer = bit_at_and (bit_and bits mask) mask i in let inner = bit_at_and bits mask i in omega arith)

pub masked_itself : (mask : ℕ) → bit_and mask mask ≡ mask
masked_itself mask = same_from_bits (bit_and mask mask) mask (λ i. let both = bit_at_and mask mask i in omega arith)

pub or_formed : (w bits found : ℕ) → bits < 2 ^ 64 → IsFormed (or_change w bits found)
or_formed w bits found small = record { mask = small; old = masked_again found bits; new = masked_itself bits }

pub and_formed : (w bits found : ℕ) → IsFormed (and_change w bits found)
and_formed w bits found = record { mask = omega arith; old = masked_again found (bit_not w64 bits); new = and_zero_l (bit_not w64 bits) }

-- a bit of the mask is the old one, another stays
pub bit_at-taken_back : (c : Change) (word i : ℕ) → IsFormed c → i < 64 → bit_at (taken_back c word) i ≡ cond (eqb (bit_at c.mask i) 1) (bit_at c.old i) (bit_at word i)
bit_at-taken_back c word i formed low =
    let whole : bit_at (taken_back c word) i ≡ max (bit_at (bit_and word (bit_not w64 c.mask)) i) (bit_at c.old i) = bit_at_or (bit_and word (bit_not w64 c.mask)) c.old i in
    let rest : bit_at (bit_and word (bit_not w64 c.mask)) i ≡ min (bit_at word i) (bit_at (bit_not w64 c.mask) i) = bit_at_and word (bit_not w64 c.mask) i in
    let free : bit_at (bit_not w64 c.mask) i ≡ 1 - bit_at c.mask i = bit_at_not w64 c.mask i formed.mask low in
    let inside : bit_at c.old i ≡ min (bit_at c.old i) (bit_at c.mask i) = ap (λ n. bit_at n i) (sym formed.old) ∙ bit_at_and c.old c.mask i in
    let one = bit_at-lt c.mask i in
    let two = bit_at-lt word i in
    let three = bit_at-lt c.old i in
    ⊎_elim
    (λ (of : bit_at c.mask i ≡ 1). let e : bit_at (taken_back c word) i ≡ bit_at c.old i = omega arith in e ∙ sym (cond-true _ _ _ (eq-eqb (bit_at c.mask i) 1 of)))
    (λ (apart : bit_at c.mask i ≢ 1). let e : bit_at (taken_back c word) i ≡ bit_at word i = omega arith in e ∙ sym (cond-false _ _ _ (ne_eqb (bit_at c.mask i) 1 apart)))
    (cases_eq (bit_at c.mask i) 1)
