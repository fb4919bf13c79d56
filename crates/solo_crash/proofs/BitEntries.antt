-- What the entry of an OR, of an AND and of a SET makes of a word.
use Rattle.std.proofs.Common.{◌≡◌, ⊎_elim, ℕ, ◌^◌, ◌<◌, ◌≤◌, ◌∙◌, ap, arith}
use Rattle.std.specs.Prelude.{bit_and, bit_or}
use Rattle.std.specs.Int.{bit_not, w64}
use Rattle.std.proofs.lemmas.Bool.{cases_lt}
use Rattle.std.proofs.lemmas.Nat.Bits.{bit_at-lt, bit_at-zero, bit_at_above, bit_at_and, bit_at_not, bit_at_or, same_from_bits}
use Rattle.solo_view.specs.Bits.{with_bits}

pub or_entry : (x word : ℕ) → x < 2 ^ 64 → word < 2 ^ 64 → with_bits x x word ≡ bit_or word x
or_entry x word fits small = same_from_bits (with_bits x x word) (bit_or word x) (λ i.
    let or = bit_at_or (bit_and word (bit_not w64 x)) x i in
    let and = bit_at_and word (bit_not w64 x) i in
    let whole = bit_at_or word x i in
    let bound = bit_at-lt word i in
    let other = bit_at-lt x i in
    ⊎_elim
    (λ (within : i < 64). let not = bit_at_not w64 x i fits within in omega arith)
    (λ (beyond : 64 ≤ i). let none = bit_at_above word 64 i small beyond in omega arith)
    (cases_lt i 64))

pub and_entry : (x word : ℕ) → x < 2 ^ 64 → with_bits (bit_not w64 x) 0 word ≡ bit_and word x
and_entry x word fits =
    let back : bit_not w64 (bit_not w64 x) ≡ x = omega arith in
    ap (λ (mask : ℕ). bit_or (bit_and word mask) 0) back
    ∙ same_from_bits (bit_or (bit_and word x) 0) (bit_and word x) (λ i. let or = bit_at_or (bit_and word x) 0 i in let none = bit_at-zero i in omega arith)
