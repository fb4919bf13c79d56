-- Sums and counts over the numbers of a range, one number more.
use Rattle.std.proofs.Common.{◌≡◌, ℕ, ◌+◌, ◌*◌, ◌≤◌, Bool, true, false, cond, List, [], ◌∷◌, ◌++◌, length, length-append, Option, Some, None, is_some, refl, sym, ◌∙◌, ap, arith, zero-add}
use Rattle.std.specs.Int.{from_bool}
use Rattle.std.specs.List.{count_by, flat_map, range_with_len, sum_by}
use Rattle.std.specs.Option.{option_to_list}
use Rattle.std.proofs.lemmas.List.Sums.{sum_by-append}
use Rattle.pm_image.proofs.Ranges.{parts_more}
use Rattle.pm_image.proofs.Redoing.{range_more}

pub sum_more : (f : ℕ → ℕ) (k : ℕ) → sum_by f (range_with_len 0 (k + 1)) ≡ sum_by f (range_with_len 0 k) + f k
sum_more f k =
    ap (sum_by f) (range_more 0 k) ∙ sum_by-append f (range_with_len 0 k) ((0 + k) ∷ [])
    ∙ ap (λ (n : ℕ). sum_by f (range_with_len 0 k) + n) (zero-add (f (0 + k)) ∙ ap f (zero-add k))

as_count : (b : Bool) → from_bool b ≡ cond b 1 0
as_count true = refl
as_count false = refl

one_at_most : (b : Bool) → cond b 1 0 ≤ 1
one_at_most true = omega arith
one_at_most false = omega arith

-- how many numbers pass, with one more of which it is told
pub counted_more : (p : ℕ → Bool) (k count one : ℕ) (told : Bool) → count ≡ count_by p (range_with_len 0 k) → count ≤ k → one ≡ from_bool told → told ≡ p k
    → (count + one ≡ count_by p (range_with_len 0 (k + 1))) × (count + one ≤ k + 1)
counted_more p k count one told counted few is same =
    let as_one : one ≡ cond (p k) 1 0 = is ∙ as_count told ∙ ap (λ (b : Bool). cond b 1 0) same in
    let small = one_at_most (p k) in
    ((λ i. counted i + as_one i) ∙ sym (sum_more (λ j. cond (p j) 1 0) k), omega (arith, few, as_one, small))

there : {X : Type 0} (o : Option X) → from_bool (is_some o) ≡ length (option_to_list o)
there None = refl
there (Some x) = refl

there_few : {X : Type 0} (o : Option X) → length (option_to_list o) ≤ 1
there_few None = omega arith
there_few (Some x) = omega arith

-- how many are there, with one more that may be
pub gathered_more : {X : Type 0} (h : ℕ → Option X) (k count one : ℕ) (told : Bool) → count ≡ length (flat_map (λ j. option_to_list (h j)) (range_with_len 0 k)) → count ≤ k → one ≡ from_bool told → told ≡ is_some (h k)
    → (count + one ≡ length (flat_map (λ j. option_to_list (h j)) (range_with_len 0 (k + 1)))) × (count + one ≤ k + 1)
gathered_more {X = X} h k count one told counted few is same =
    let as_one : one ≡ length (option_to_list (h k)) = is ∙ ap from_bool same ∙ there (h k) in
    let small = there_few (h k) in
    let parts : length (flat_map (λ j. option_to_list (h j)) (range_with_len 0 (k + 1))) ≡ length (flat_map (λ j. option_to_list (h j)) (range_with_len 0 k)) + length (option_to_list (h k)) =
    ap length (parts_more (λ j. option_to_list (h j)) k) ∙ length-append (flat_map (λ j. option_to_list (h j)) (range_with_len 0 k)) (option_to_list (h k)) in
    ((λ i. counted i + as_one i) ∙ sym parts, omega (arith, few, as_one, small))
