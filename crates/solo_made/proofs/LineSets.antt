-- What a set of lines has when one is put in.
use Rattle.std.proofs.Common.{◌≡◌, ◌≢◌, ◌⊎◌, ⊎_elim, ℕ, ◌-◌, ◌*◌, ◌/◌, ◌%◌, ◌^◌, ◌<◌, ◌≤◌, ◌&&◌, ◌||◌, Bool, true, false, eqb, leb, List, get_or, length, slice_index, slice_set, refl, sym, ap, ◌∙◌, arith, w64}
use Rattle.std.specs.Prelude.{bit_or}
use Rattle.std.specs.Int.{bit_at}
use Rattle.std.proofs.lemmas.Bool.{cases_eq, eq-eqb, eqb-true, false≢true, le-leb, leb-true, ne_eqb}
use Rattle.std.proofs.lemmas.List.{get_or_default, get_or-set_other, get_or-set_same}
use Rattle.std.proofs.lemmas.Nat.Bits.{bit_at_set_other, bit_at_set_same}
use Rattle.solo_made.specs.Made.{IsOffsetIn, has_line, has_object}

or_false : (b : Bool) → (b || false) ≡ b
or_false true = refl
or_false false = refl

or_true : (b : Bool) → (b || true) ≡ true
or_true true = refl
or_true false = refl

-- a word of the set with the bit of a line, and the words with that one
abbrev with_bit : ℕ → ℕ → ℕ
with_bit line word = bit_or word (1 * 2 ^ (line % 64) % 2 ^ 64)

abbrev with_line : List ℕ → ℕ → ℕ → List ℕ
with_line words line word = slice_set words (line / 64) (with_bit line word)

line_put : (words : List ℕ) (put line word : ℕ) → put / 64 < length words → word ≡ slice_index words (put / 64) → has_line (with_line words put word) line ≡ (has_line words line || eqb line put)
line_put words put line word inside is = ⊎_elim
    (λ (same : line ≡ put).
    ap (λ (k : ℕ). has_line (with_line words put word) k) same
    ∙ (ap (λ (w : ℕ). eqb (bit_at w (put % 64)) 1) (get_or-set_same words (put / 64) (with_bit put word) 0 inside)
    ∙ (eq-eqb (bit_at (with_bit put word) (put % 64)) 1 (bit_at_set_same w64 word (put % 64) (omega arith))
    ∙ (sym (or_true (has_line words line)) ∙ ap (λ (b : Bool). has_line words line || b) (sym (eq-eqb line put same))))))
    (λ (other : line ≡ put → ⊥).
    kept other (cases_eq (line / 64) (put / 64))
    ∙ (sym (or_false (has_line words line)) ∙ ap (λ (b : Bool). has_line words line || b) (sym (ne_eqb line put other))))
    (cases_eq line put)
  where
    kept : (line ≡ put → ⊥) → (line / 64 ≡ put / 64) ⊎ (line / 64 ≡ put / 64 → ⊥) → has_line (with_line words put word) line ≡ has_line words line
    kept other = ⊎_elim
        (λ (same : line / 64 ≡ put / 64).
        let apart : line % 64 ≢ put % 64 = omega arith in
        ap (λ (k : ℕ). eqb (bit_at (slice_index (with_line words put word) k) (line % 64)) 1) same
        ∙ (ap (λ (w : ℕ). eqb (bit_at w (line % 64)) 1) (get_or-set_same words (put / 64) (with_bit put word) 0 inside)
        ∙ (ap (λ (b : ℕ). eqb b 1) (bit_at_set_other w64 word (put % 64) (omega arith) (line % 64) apart)
        ∙ (ap (λ (w : ℕ). eqb (bit_at w (line % 64)) 1) is ∙ ap (λ (k : ℕ). eqb (bit_at (slice_index words k) (line % 64)) 1) (sym same)))))
        (λ (apart : line / 64 ≡ put / 64 → ⊥). ap (λ (w : ℕ). eqb (bit_at w (line % 64)) 1) (get_or-set_other words (put / 64) (line / 64) (with_bit put word) 0 apart))

-- an object is in the set behind that where it was before, or is the one that was put in
pub object_put : (words : List ℕ) (off other word : ℕ) → IsOffsetIn (length words) off → word ≡ get_or words ((off / 64 - 1) / 64) word
    → has_object (with_line words (off / 64 - 1) word) other ≡ (has_object words other || eqb other off)
object_put words off other word fits is = go (eqb (other % 64) 0) (leb 64 other) refl refl
  where
    aligned : off % 64 ≡ 0
    aligned = fits.aligned

    behind : 64 ≤ off
    behind = fits.behind

    inside : off ≤ 4096 * length words
    inside = fits.inside

    same_line : other % 64 ≡ 0 → 64 ≤ other → eqb (other / 64 - 1) (off / 64 - 1) ≡ eqb other off
    same_line whole far = ⊎_elim
        (λ (same : other ≡ off). eq-eqb (other / 64 - 1) (off / 64 - 1) (ap (λ (k : ℕ). k / 64 - 1) same) ∙ sym (eq-eqb other off same))
        (λ (apart : other ≡ off → ⊥). ne_eqb (other / 64 - 1) (off / 64 - 1) (λ one. let a = aligned in let b = behind in apart (omega arith)) ∙ sym (ne_eqb other off apart))
        (cases_eq other off)

    go : (a b : Bool) → eqb (other % 64) 0 ≡ a → leb 64 other ≡ b
        → (a && b && has_line (with_line words (off / 64 - 1) word) (other / 64 - 1)) ≡ ((a && b && has_line words (other / 64 - 1)) || eqb other off)
    go true true whole far =
        let low : (off / 64 - 1) / 64 < length words = let a = aligned in let b = behind in let d = inside in omega arith in
        line_put words (off / 64 - 1) (other / 64 - 1) word low (is ∙ get_or_default words ((off / 64 - 1) / 64) word 0 low)
        ∙ ap (λ (b : Bool). has_line words (other / 64 - 1) || b) (same_line (eqb-true (other % 64) 0 whole) (leb-true 64 other far))
    go true false whole far = sym (ne_eqb other off (λ same. false≢true (sym far ∙ le-leb 64 other (let b = behind in omega arith))))
    go false b whole far = sym (ne_eqb other off (λ same. false≢true (sym whole ∙ eq-eqb (other % 64) 0 (let a = aligned in omega arith))))
