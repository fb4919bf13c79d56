-- A list that is made part by part has one element at most that passes a test, where no two parts have one and no part has two.
use Rattle.std.proofs.Common.{◌≡◌, ⊎_elim, ℕ, zero, suc, ◌+◌, ◌<◌, ◌≤◌, Bool, true, false, cond, List, [], ◌∷◌, ◌++◌, length, Option, Some, None, refl, ◌∙◌, ap, arith}
use Rattle.std.specs.List.{filter, flat_map, list_all, range_with_len}
use Rattle.std.specs.Option.{option_to_list}
use Rattle.std.proofs.lemmas.Bool.{and_from, cases_lt}
use Rattle.std.proofs.lemmas.List.{length-append}
use Rattle.std.proofs.lemmas.List.Elements.{filter-append}

-- how many pass
abbrev pub passing : {X : Type 0} → (X → Bool) → List X → ℕ
passing p xs = length (filter p xs)

passing_append : {X : Type 0} (p : X → Bool) (xs ys : List X) → passing p (xs ++ ys) ≡ passing p xs + passing p ys
passing_append p xs ys = ap length (filter-append p xs ys) ∙ length-append (filter p xs) (filter p ys)

-- some part has one that passes
pub some_part : {X : Type 0} (p : X → Bool) (f : ℕ → List X) (from n : ℕ) → 1 ≤ passing p (flat_map f (range_with_len from n)) → (k : ℕ) × (from ≤ k) × (k < from + n) × (1 ≤ passing p (f k))
some_part p f from zero some = absurd (omega (arith, some))
some_part p f from (suc n) some = ⊎_elim
    (λ (here : 0 < passing p (f from)). (from, omega arith, omega arith, omega (arith, here)))
    (λ (none : passing p (f from) ≤ 0).
    let sum = passing_append p (f from) (flat_map f (range_with_len (from + 1) n)) in
    let rest = some_part p f (from + 1) n (omega (arith, sum, some, none)) in
    let low = rest.1 in
    let high = rest.2 in
    (rest.0, omega (arith, low), omega (arith, high), rest.3))
    (cases_lt 0 (passing p (f from)))

pub at_most_one : {X : Type 0} (p : X → Bool) (f : ℕ → List X) (from n : ℕ) → ((k : ℕ) → k < from + n → passing p (f k) ≤ 1)
    → ((j k : ℕ) → j < from + n → k < from + n → 1 ≤ passing p (f j) → 1 ≤ passing p (f k) → j ≡ k) → passing p (flat_map f (range_with_len from n)) ≤ 1
at_most_one p f from zero few apart = omega arith
at_most_one p f from (suc n) few apart =
    let sum = passing_append p (f from) (flat_map f (range_with_len (from + 1) n)) in
    let first = few from (omega arith) in
    let rest = at_most_one p f (from + 1) n (λ k low. few k (omega (arith, low))) (λ j k low high. apart j k (omega (arith, low)) (omega (arith, high))) in
    ⊎_elim
    (λ (here : 0 < passing p (f from)). ⊎_elim
    (λ (later : 0 < passing p (flat_map f (range_with_len (from + 1) n))).
    let other = some_part p f (from + 1) n (omega (arith, later)) in
    let low = other.1 in
    let high = other.2 in
    let same : from ≡ other.0 = apart from other.0 (omega arith) (omega (arith, high)) (omega (arith, here)) other.3 in
    absurd (omega (arith, same, low)))
    (λ (none : passing p (flat_map f (range_with_len (from + 1) n)) ≤ 0). omega (arith, sum, first, none))
    (cases_lt 0 (passing p (flat_map f (range_with_len (from + 1) n)))))
    (λ (none : passing p (f from) ≤ 0). omega (arith, sum, rest, none))
    (cases_lt 0 (passing p (f from)))

-- of one element or none
pub one_or_none : {X : Type 0} (p : X → Bool) (o : Option X) → passing p (option_to_list o) ≤ 1
one_or_none p None = omega arith
one_or_none {X = X} p (Some x) = go (p x) where
  go : (b : Bool) → length (cond b (x ∷ []) []) ≤ 1
  go true = omega arith
  go false = omega arith

pub passing_one : {X : Type 0} (p : X → Bool) (o : Option X) → 1 ≤ passing p (option_to_list o) → (x : X) × (o ≡ Some x) × (p x ≡ true)
passing_one p None some = absurd (omega (arith, some))
passing_one {X = X} p (Some x) some = go (p x) refl some where
  go : (b : Bool) → p x ≡ b → 1 ≤ length (cond b (x ∷ []) []) → (y : X) × (Some x ≡ Some y) × (p y ≡ true)
  go true is more = (x, refl, is)
  go false is more = absurd (omega (arith, more))

-- each number of a range passes
pub all_pass : (p : ℕ → Bool) (from n : ℕ) → ((k : ℕ) → k < from + n → p k ≡ true) → list_all p (range_with_len from n) ≡ true
all_pass p from zero each = refl
all_pass p from (suc n) each = and_from (p from) (list_all p (range_with_len (from + 1) n)) (each from (omega arith)) (all_pass p (from + 1) n (λ k low. each k (omega (arith, low))))
