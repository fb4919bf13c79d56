-- How many of some records or entries pass a test, of a list made part by part too.
use Rattle.std.proofs.Common.{◌≡◌, ⊎_elim, ℕ, zero, suc, ◌+◌, ◌<◌, ◌≤◌, Bool, true, false, cond, List, [], ◌∷◌, ◌++◌, length, length-append, take, ◌∙◌, ap, arith}
use Rattle.std.specs.List.{filter, flat_map, range_with_len}
use Rattle.std.proofs.lemmas.Bool.{cases_lt}
use Rattle.std.proofs.lemmas.List.Elements.{filter-append}

-- at most as many as there are
pub count_small : {X : Type 0} (p : X → Bool) (xs : List X) (n : ℕ) → length (filter p (take n xs)) ≤ n
count_small p xs zero = omega arith
count_small p [] (suc n) = omega arith
count_small {X = X} p (x ∷ xs) (suc n) = one (p x) (count_small p xs n) where
  one : (b : Bool) → length (filter p (take n xs)) ≤ n → length (cond b (x ∷ filter p (take n xs)) (filter p (take n xs))) ≤ suc n
  one true rest = omega arith
  one false rest = omega arith

counted_apart : {X : Type 0} (p : X → Bool) (xs ys : List X) → length (filter p (xs ++ ys)) ≡ length (filter p xs) + length (filter p ys)
counted_apart p xs ys = ap length (filter-append p xs ys) ∙ length-append (filter p xs) (filter p ys)

-- the whole has what a part has
part_counted : {X : Type 0} (p : X → Bool) (f : ℕ → List X) (a n k : ℕ) → a ≤ k → k < a + n → length (filter p (f k)) ≤ length (filter p (flat_map f (range_with_len a n)))
part_counted p f a zero k from to = absurd (omega arith)
part_counted {X = X} p f a (suc n) k from to =
    let parts = counted_apart p (f a) (flat_map f (range_with_len (a + 1) n)) in
    ⊎_elim
    (λ (later : a < k). let rest = part_counted p f (a + 1) n k (omega arith) (omega arith) in omega (arith, parts, rest))
    (λ (here : k ≤ a). let same : k ≡ a = omega arith in let one : length (filter p (f k)) ≡ length (filter p (f a)) = ap (λ (i : ℕ). length (filter p (f i))) same in omega (arith, parts, one))
    (cases_lt a k)

-- and what two of them have
pub two_counted : {X : Type 0} (p : X → Bool) (f : ℕ → List X) (a n j k : ℕ) → a ≤ j → j < k → k < a + n
    → length (filter p (f j)) + length (filter p (f k)) ≤ length (filter p (flat_map f (range_with_len a n)))
two_counted p f a zero j k from apart to = absurd (omega arith)
two_counted {X = X} p f a (suc n) j k from apart to =
    let parts = counted_apart p (f a) (flat_map f (range_with_len (a + 1) n)) in
    ⊎_elim
    (λ (later : a < j). let rest = two_counted p f (a + 1) n j k (omega arith) apart (omega arith) in omega (arith, parts, rest))
    (λ (here : j ≤ a).
    let same : j ≡ a = omega arith in
    let one : length (filter p (f j)) ≡ length (filter p (f a)) = ap (λ (i : ℕ). length (filter p (f i))) same in
    let rest = part_counted p f (a + 1) n k (omega arith) (omega arith) in
    omega (arith, parts, one, rest))
    (cases_lt a j)
