-- Lists made part by part from the numbers of a range, and tests of each of these.
use Rattle.std.proofs.Common.{◌≡◌, ⊎_elim, ℕ, zero, suc, ◌+◌, ◌<◌, ◌≤◌, ◌&&◌, Bool, true, false, List, [], ◌∷◌, ◌++◌, Option, None, refl, sym, ◌∙◌, ap, arith}
use Rattle.std.specs.List.{find, flat_map, list_all, range_with_len}
use Rattle.std.specs.Option.{option_or}
use Rattle.std.proofs.lemmas.Bool.{cases_lt, false≢true}
use Rattle.std.proofs.lemmas.List.Folds.{find-append}
use Rattle.pm_image.proofs.Ranges.{all_fails}

nothing_left : {X : Type 0} (xs ys : List X) → xs ++ ys ≡ [] → (xs ≡ []) × (ys ≡ [])
nothing_left [] ys is = (refl, is)
nothing_left (x ∷ xs) ys is = absurd cc

-- where the whole is empty, each part is
empty_from : {X : Type 0} (f : ℕ → List X) (a n k : ℕ) → flat_map f (range_with_len a n) ≡ [] → a ≤ k → k < a + n → f k ≡ []
empty_from f a zero k is from to = absurd (omega arith)
empty_from f a (suc n) k is from to =
    let parts = nothing_left (f a) (flat_map f (range_with_len (a + 1) n)) is in
    ⊎_elim
    (λ (later : a < k). empty_from f (a + 1) n k parts.1 (omega arith) (omega arith))
    (λ (here : k ≤ a). let same : k ≡ a = omega arith in ap f same ∙ parts.0)
    (cases_lt a k)

pub empty_part : {X : Type 0} (f : ℕ → List X) (n k : ℕ) → flat_map f (range_with_len 0 n) ≡ [] → k < n → f k ≡ []
empty_part f n k is inside = empty_from f 0 n k is (omega arith) (omega arith)

-- what is in no part is not in the whole
pub found_in_no_part : {X : Type 0} (p : X → Bool) (f : ℕ → List X) (a n : ℕ) → ((k : ℕ) → a ≤ k → k < a + n → find p (f k) ≡ None) → find p (flat_map f (range_with_len a n)) ≡ None
found_in_no_part p f a zero none = refl
found_in_no_part {X = X} p f a (suc n) none =
    let rest : List X = flat_map f (range_with_len (a + 1) n) in
    find-append p (f a) rest ∙ ap (λ (o : Option X). option_or o (find p rest)) (none a (omega arith) (omega arith))
    ∙ found_in_no_part p f (a + 1) n (λ k from to. none k (omega arith) (omega arith))

-- tests that agree on the numbers of a range
all_same_from : (p q : ℕ → Bool) (a n : ℕ) → ((k : ℕ) → a ≤ k → k < a + n → p k ≡ q k) → list_all p (range_with_len a n) ≡ list_all q (range_with_len a n)
all_same_from p q a zero same = refl
all_same_from p q a (suc n) same =
    let here : p a ≡ q a = same a (omega arith) (omega arith) in
    let rest : list_all p (range_with_len (a + 1) n) ≡ list_all q (range_with_len (a + 1) n) = all_same_from p q (a + 1) n (λ k from to. same k (omega arith) (omega arith)) in
    (λ j. here j && rest j)

pub all_same : (p q : ℕ → Bool) (n : ℕ) → ((k : ℕ) → k < n → p k ≡ q k) → list_all p (range_with_len 0 n) ≡ list_all q (range_with_len 0 n)
all_same p q n same = all_same_from p q 0 n (λ k from to. same k (omega arith))

-- a test that all numbers pass
pub each_passes : (p : ℕ → Bool) (n k : ℕ) → list_all p (range_with_len 0 n) ≡ true → k < n → p k ≡ true
each_passes p n k all inside = go (p k) refl where
  go : (b : Bool) → p k ≡ b → p k ≡ true
  go true passes = passes
  go false fails = absurd (false≢true (sym (all_fails p n k inside fails) ∙ all))
