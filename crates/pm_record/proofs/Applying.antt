-- What a redo entry does to a word, bit by bit.
use Rattle.std.proofs.Common.{◌≡◌, ℕ, ◌^◌, ◌<◌, min, bit_and, bit_or, sym, ◌∙◌, ap, inl, inr, refl, arith}
use Rattle.std.specs.Int.{bit_at, w64}
use Rattle.std.specs.Int.Bits.{and_self, and_lt}
use Rattle.std.proofs.lemmas.Nat.{and_assoc, or_lt}
use Rattle.std.proofs.lemmas.Nat.Bits.{bit_at_and, bit_at_or, bit_at_not, bit_at_ones, bit_at-zero, bit_at-lt, same_from_bits, same_from_bits_below}
use Rattle.std.proofs.lemmas.Bool.{cases_lt}
use Rattle.pm_record.specs.Redo.{mask_of, outcome, redo_mask, applied}
use Rattle.pm_record.specs.declared.redo.Redo.{Redo}
use Rattle.pm_record.specs.declared.redo.Op.{Op}
use Rattle.pm_record.specs.declared.redo.Op.TheVariants.{Set, Or, And}

-- outside the operation's bits the word keeps its own
outcome_outside : (op : Op) (value word k : ℕ) → value < 2 ^ 64 → k < 64 → bit_at (mask_of op value) k ≡ 0 → bit_at (outcome op value word) k ≡ bit_at word k
outcome_outside Set value word k fits within clear = absurd (let one = bit_at_ones 64 k within in omega arith)
outcome_outside Or value word k fits within clear = bit_at_or word value k ∙ (let bound = bit_at-lt word k in omega arith)
outcome_outside And value word k fits within clear = bit_at_and word value k ∙ (let other = bit_at_not w64 value k fits within in let bound = bit_at-lt word k in omega arith)

-- the operation's bits become those of the value
outcome_inside : (op : Op) (value word k : ℕ) → value < 2 ^ 64 → k < 64 → bit_at (mask_of op value) k ≡ 1 → bit_at (outcome op value word) k ≡ bit_at value k
outcome_inside Set value word k fits within set = refl
outcome_inside Or value word k fits within set = bit_at_or word value k ∙ (let bound = bit_at-lt word k in omega arith)
outcome_inside And value word k fits within set = bit_at_and word value k ∙ (let other = bit_at_not w64 value k fits within in omega arith)

-- the same of what an entry made of a word
pub outside : (e : Redo) (word result : ℕ) → result ≡ applied e word → e.value < 2 ^ 64 → (k : ℕ) → k < 64 → bit_at (redo_mask e) k ≡ 0 → bit_at result k ≡ bit_at word k
outside e word result made fits k within clear = ap (λ (n : ℕ). bit_at n k) made ∙ outcome_outside e.op e.value word k fits within clear

pub inside : (e : Redo) (word result : ℕ) → result ≡ applied e word → e.value < 2 ^ 64 → (k : ℕ) → k < 64 → bit_at (redo_mask e) k ≡ 1 → bit_at result k ≡ bit_at e.value k
inside e word result made fits k within set = ap (λ (n : ℕ). bit_at n k) made ∙ outcome_inside e.op e.value word k fits within set

-- a second time changes nothing more
pub outcome-outcome : (op : Op) (value word : ℕ) → outcome op value (outcome op value word) ≡ outcome op value word
outcome-outcome Set value word = refl
outcome-outcome Or value word = same_from_bits (bit_or (bit_or word value) value) (bit_or word value) (λ k. bit_at_or (bit_or word value) value k ∙ (let once = bit_at_or word value k in omega arith))
outcome-outcome And value word = and_assoc value word value ∙ ap (bit_and word) (and_self value)

outcome-lt : (op : Op) (value word : ℕ) → value < 2 ^ 64 → word < 2 ^ 64 → outcome op value word < 2 ^ 64
outcome-lt Set value word fits whole = fits
outcome-lt Or value word fits whole = or_lt 64 word value whole fits
outcome-lt And value word fits whole = and_lt 64 word value whole fits

-- one bit, where at most one of the two entries has it
either_order_at : (a b : Redo) (word k : ℕ) → a.value < 2 ^ 64 → b.value < 2 ^ 64 → k < 64 → min (bit_at (redo_mask a) k) (bit_at (redo_mask b) k) ≡ 0
    → bit_at (applied a (applied b word)) k ≡ bit_at (applied b (applied a word)) k
either_order_at a b word k a_fits b_fits within apart =
    let out_a = λ (w : ℕ). outside a w (applied a w) refl a_fits k within in
    let out_b = λ (w : ℕ). outside b w (applied b w) refl b_fits k within in
    let in_a = λ (w : ℕ). inside a w (applied a w) refl a_fits k within in
    let in_b = λ (w : ℕ). inside b w (applied b w) refl b_fits k within in
    let a_bit = bit_at-lt (redo_mask a) k in
    let b_bit = bit_at-lt (redo_mask b) k in
    elim (cases_lt (bit_at (redo_mask a) k) 1) [
      | inl a_out ↦ elim (cases_lt (bit_at (redo_mask b) k) 1) [
        | inl b_out ↦ out_a (applied b word) (omega arith) ∙ out_b word (omega arith) ∙ sym (out_b (applied a word) (omega arith) ∙ out_a word (omega arith))
        | inr b_in ↦ out_a (applied b word) (omega arith) ∙ in_b word (omega arith) ∙ sym (in_b (applied a word) (omega arith))
      ]
      | inr a_in ↦ in_a (applied b word) (omega arith) ∙ sym (out_b (applied a word) (omega arith) ∙ in_a word (omega arith))
    ]

-- two entries with no common bit
pub either_order : (a b : Redo) (word : ℕ) → a.value < 2 ^ 64 → b.value < 2 ^ 64 → word < 2 ^ 64 → bit_and (redo_mask a) (redo_mask b) ≡ 0 → applied a (applied b word) ≡ applied b (applied a word)
either_order a b word a_fits b_fits whole apart =
    let ab_fits = outcome-lt a.op a.value (applied b word) a_fits (outcome-lt b.op b.value word b_fits whole) in
    let ba_fits = outcome-lt b.op b.value (applied a word) b_fits (outcome-lt a.op a.value word a_fits whole) in
    same_from_bits_below 64 (applied a (applied b word)) (applied b (applied a word)) ab_fits ba_fits
    (λ k within. either_order_at a b word k a_fits b_fits within (sym (bit_at_and (redo_mask a) (redo_mask b) k) ∙ ap (λ (n : ℕ). bit_at n k) apart ∙ bit_at-zero k))
