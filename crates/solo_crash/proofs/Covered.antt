-- The words that a range of bytes covers are those that have a byte of it, and a write leaves the words of a function.
use Rattle.std.proofs.Common.{◌≡◌, ◌≢◌, ⊎_elim, ℕ, ◌+◌, ◌-◌, ◌*◌, ◌/◌, ◌<◌, ◌≤◌, Bool, true, false, cond, eqb, List, [], ◌∷◌, length, get_or, sym, ◌∙◌, ap, subst, arith}
use Rattle.std.specs.List.{Contains, range_with_len}
use Rattle.std.proofs.lemmas.Bool.{cases_Bool, cases_eq, cond-false, cond-true, eq-eqb, eqb-true, false_from_ne_true, false≢true, ne_eqb, or_cases, or_left, or_right}
use Rattle.std.proofs.lemmas.List.FromFn.{get_or-range_with_len, length-range_with_len}
use Rattle.solo_model.specs.Bytes.{covered_words, is_among}
use Rattle.pm_image.proofs.Members.{first_member, in_range, later_member, member_cases, no_member}
use Rattle.solo_crash.specs.Writes.{written_word, words_written, IsWritten}

-- so many words from the first on
abbrev pub count_of : ℕ → ℕ → ℕ
count_of place len = (place + len - 1) / 8 + 1 - place / 8

pub covers_none : (place : ℕ) → covered_words place 0 ≡ []
unfolding covered_words
covers_none place = ap (λ (b : Bool). cond b [] (range_with_len (place / 8) ((place + 0 - 1) / 8 + 1 - place / 8))) (eq-eqb 0 0 (omega arith))

pub covers_some : (place len : ℕ) → 0 < len → covered_words place len ≡ range_with_len (place / 8) (count_of place len)
unfolding covered_words
covers_some place len some =
    ap (λ (b : Bool). cond b [] (range_with_len (place / 8) ((place + len - 1) / 8 + 1 - place / 8))) (ne_eqb len 0 (λ none. omega arith))

-- a covered word has a byte of the range
pub covered_has_byte : (place len i : ℕ) → Contains (covered_words place len) i → (0 < len) × (8 * i < place + len) × (place < 8 * i + 8)
covered_has_byte place len i there = ⊎_elim
    (λ (none : len ≡ 0). absurd (no_member i (subst (λ (words : List ℕ). Contains words i) (ap (covered_words place) none ∙ covers_none place) there)))
    (λ (some : len ≢ 0).
    let more : 0 < len = grind arith in
    let within : (place / 8 ≤ i) × (i < place / 8 + count_of place len) = in_range (place / 8) (count_of place len) i (subst (λ (words : List ℕ). Contains words i) (covers_some place len more) there) in
    (more, omega arith, omega arith))
    (cases_eq len 0)

-- and a word that has one is covered
pub byte_is_covered : (place len i : ℕ) → 0 < len → 8 * i < place + len → place < 8 * i + 8 → Contains (covered_words place len) i
byte_is_covered place len i some below above =
    let k : ℕ = i - place / 8 in
    let inside : k < count_of place len = omega arith in
    let near : k < length (range_with_len (place / 8) (count_of place len)) = omega (arith, length-range_with_len (place / 8) (count_of place len)) in
    let is : get_or (range_with_len (place / 8) (count_of place len)) k i ≡ i = get_or-range_with_len (place / 8) (count_of place len) k i inside ∙ omega arith in
    subst (λ (words : List ℕ). Contains words i) (sym (covers_some place len some)) (k, near, is)

-- the test of a number among others
pub among_tested : (xs : List ℕ) (i : ℕ) → is_among xs i ≡ true → Contains xs i
among_tested [] i is = absurd (false≢true is)
among_tested (x ∷ xs) i is = ⊎_elim
    (λ (here : eqb x i ≡ true). subst (λ (y : ℕ). Contains (x ∷ xs) y) (eqb-true x i here) (first_member x xs))
    (λ (later : is_among xs i ≡ true). later_member x xs i (among_tested xs i later))
    (or_cases (eqb x i) (is_among xs i) is)

pub member_tested : (xs : List ℕ) (i : ℕ) → Contains xs i → is_among xs i ≡ true
member_tested [] i there = absurd (no_member i there)
member_tested (x ∷ xs) i there = ⊎_elim
    (λ (here : x ≡ i). or_left (eqb x i) (is_among xs i) (eq-eqb x i here))
    (λ (later : Contains xs i). or_right (eqb x i) (is_among xs i) (member_tested xs i later))
    (member_cases x xs i there)

-- so the words after a write are those of the function
pub written_words : (w : ℕ → ℕ) (place : ℕ) (bytes : List ℕ) → IsWritten w (words_written place bytes w) place bytes
written_words w place bytes =
    let covered : List ℕ = covered_words place (length bytes) in
    record {
      covered = λ i there. cond-true (is_among covered i) (written_word place bytes i (w i)) (w i) (member_tested covered i there);
      others = λ i never. cond-false (is_among covered i) (written_word place bytes i (w i)) (w i) (false_from_ne_true (is_among covered i) (λ is. never (among_tested covered i is)));
    }

pub only_words : (w v : ℕ → ℕ) (place : ℕ) (bytes : List ℕ) → IsWritten w v place bytes → (i : ℕ) → v i ≡ words_written place bytes w i
only_words w v place bytes write i =
    let covered : List ℕ = covered_words place (length bytes) in
    let known : IsWritten w (words_written place bytes w) place bytes = written_words w place bytes in
    ⊎_elim
    (λ (is : is_among covered i ≡ true). let there : Contains covered i = among_tested covered i is in write.covered i there ∙ sym (known.covered i there))
    (λ (is : is_among covered i ≡ false).
    let never : Contains covered i → ⊥ = λ there. false≢true (sym is ∙ member_tested covered i there) in write.others i never ∙ sym (known.others i never))
    (cases_Bool (is_among covered i))
