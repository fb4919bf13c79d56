-- The words that a range of bytes covers are those that have a byte of it.
use Rattle.std.proofs.Common.{◌≡◌, ◌≢◌, ⊎_elim, ℕ, ◌+◌, ◌-◌, ◌*◌, ◌/◌, ◌<◌, ◌≤◌, Bool, cond, List, [], length, get_or, sym, ◌∙◌, ap, subst, arith}
use Rattle.std.specs.List.{Contains, range_with_len}
use Rattle.std.proofs.lemmas.Bool.{cases_eq, eq-eqb, ne_eqb}
use Rattle.std.proofs.lemmas.List.FromFn.{get_or-range_with_len, length-range_with_len}
use Rattle.pm_model.specs.Transaction.{covered_words}
use Rattle.pm_image.proofs.Members.{in_range, no_member}

-- so many words from the first on
abbrev pub count_of : ℕ → ℕ → ℕ
count_of place len = (place + len - 1) / 8 + 1 - place / 8

pub covers_none : (place : ℕ) → covered_words place 0 ≡ []
unfolding covered_words
covers_none place = ap (λ (b : Bool). cond b [] (range_with_len (place / 8) ((place + 0 - 1) / 8 + 1 - place / 8))) (eq-eqb 0 0 (omega arith))

pub covers_some : (place len : ℕ) → 0 < len → covered_words place len ≡ range_with_len (place / 8) (count_of place len)
unfolding covered_words
covers_some place len some =
    ap (λ (b : Bool). cond b [] (range_with_len (place / 8) ((place + len - 1) / 8 + 1 - place / 8))) (ne_eqb len 0 (λ none. omega arith))

-- a covered word has a byte of the range
pub covered_has_byte : (place len i : ℕ) → Contains (covered_words place len) i → (0 < len) × (8 * i < place + len) × (place < 8 * i + 8)
covered_has_byte place len i there = ⊎_elim
    (λ (none : len ≡ 0). absurd (no_member i (subst (λ (words : List ℕ). Contains words i) (ap (covered_words place) none ∙ covers_none place) there)))
    (λ (some : len ≢ 0).
    let more : 0 < len = grind arith in
    let within : (place / 8 ≤ i) × (i < place / 8 + count_of place len) = in_range (place / 8) (count_of place len) i (subst (λ (words : List ℕ). Contains words i) (covers_some place len more) there) in
    (more, omega arith, omega arith))
    (cases_eq len 0)

-- and a word that has one is covered
pub byte_is_covered : (place len i : ℕ) → 0 < len → 8 * i < place + len → place < 8 * i + 8 → Contains (covered_words place len) i
byte_is_covered place len i some below above =
    let k : ℕ = i - place / 8 in
    let inside : k < count_of place len = omega arith in
    let near : k < length (range_with_len (place / 8) (count_of place len)) = omega (arith, length-range_with_len (place / 8) (count_of place len)) in
    let is : get_or (range_with_len (place / 8) (count_of place len)) k i ≡ i = get_or-range_with_len (place / 8) (count_of place len) k i inside ∙ omega arith in
    subst (λ (words : List ℕ). Contains words i) (sym (covers_some place len some)) (k, near, is)
