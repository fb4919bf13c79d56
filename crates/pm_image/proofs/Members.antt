-- Lists by their members: tests and functions that agree on each member give the same, and where a member of a list comes from.
use Rattle.std.proofs.Common.{◌≡◌, ◌⊎◌, inl, inr, ℕ, zero, suc, ◌+◌, ◌<◌, ◌≤◌, Bool, true, false, cond, List, [], ◌∷◌, ◌&&◌, length, map, get_or, Some, None, refl, sym, ◌∙◌, ap, subst, arith, zero-add}
use Rattle.std.specs.List.{Contains, filter, find, flat_map, list_all, range_with_len}
use Rattle.std.proofs.lemmas.List.Elements.{Contains-get_or, Contains-append_cases, Contains-append_right}
use Rattle.std.proofs.lemmas.List.FromFn.{length-range_with_len, get_or-range_with_len}

pub first_member : {X : Type 0} (x : X) (xs : List X) → Contains (x ∷ xs) x
first_member x xs = (0, omega arith, refl)

pub later_member : {X : Type 0} (x : X) (xs : List X) (y : X) → Contains xs y → Contains (x ∷ xs) y
later_member x xs y there = Contains-append_right (x ∷ []) xs y there

pub no_member : {X : Type 0} (y : X) → Contains [] y → ⊥
no_member y (k, inside, is) = absurd (omega arith)

pub only_member : {X : Type 0} (x y : X) → Contains (x ∷ []) y → x ≡ y
only_member x y (zero, inside, is) = is
only_member x y (suc k, inside, is) = absurd (omega arith)

pub member_cases : {X : Type 0} (x : X) (xs : List X) (y : X) → Contains (x ∷ xs) y → (x ≡ y) ⊎ Contains xs y
member_cases x xs y there = elim (Contains-append_cases (x ∷ []) xs y there) [ inl here ↦ inl (only_member x y here) | inr later ↦ inr later ]

-- tests that agree on each member find the same
pub find_same : {X : Type 0} (p q : X → Bool) (xs : List X) → ((x : X) → Contains xs x → p x ≡ q x) → find p xs ≡ find q xs
find_same p q [] same = refl
find_same p q (x ∷ xs) same = (λ j. cond (same x (first_member x xs) j) (Some x) (find_same p q xs (λ y there. same y (later_member x xs y there)) j))

pub list_all_same : {X : Type 0} (p q : X → Bool) (xs : List X) → ((x : X) → Contains xs x → p x ≡ q x) → list_all p xs ≡ list_all q xs
list_all_same p q [] same = refl
list_all_same p q (x ∷ xs) same = (λ j. same x (first_member x xs) j && list_all_same p q xs (λ y there. same y (later_member x xs y there)) j)

pub map_same : {X Y : Type 0} (f g : X → Y) (xs : List X) → ((x : X) → Contains xs x → f x ≡ g x) → map f xs ≡ map g xs
map_same f g [] same = refl
map_same f g (x ∷ xs) same = (λ j. same x (first_member x xs) j ∷ map_same f g xs (λ y there. same y (later_member x xs y there)) j)

-- where nothing is found, no member passes
pub none_passes : {X : Type 0} (p : X → Bool) (xs : List X) (y : X) → find p xs ≡ None → Contains xs y → p y ≡ false
none_passes p [] y none there = absurd (no_member y there)
none_passes {X = X} p (x ∷ xs) y none there = go (p x) refl none (member_cases x xs y there) (none_passes p xs y) where
  go : (b : Bool) → p x ≡ b → cond b (Some x) (find p xs) ≡ None → (x ≡ y) ⊎ Contains xs y → (find p xs ≡ None → Contains xs y → p y ≡ false) → p y ≡ false
  go true is found place later_fails = absurd cc
  go false is rest (inl here) later_fails = ap p (sym here) ∙ is
  go false is rest (inr later) later_fails = later_fails rest later

-- the members of a range
pub in_range : (a n k : ℕ) → Contains (range_with_len a n) k → (a ≤ k) × (k < a + n)
in_range a n k (j, inside, is) =
    let within : j < n = omega (arith, length-range_with_len a n) in
    let place : get_or (range_with_len a n) j k ≡ a + j = get_or-range_with_len a n j k within in
    let at : k ≡ a + j = sym is ∙ place in
    (omega arith, omega arith)

-- a member of a part, and of a list of what a function makes
pub member_of_part : {X Y : Type 0} (f : X → List Y) (xs : List X) (y : Y) → Contains (flat_map f xs) y → (x : X) × (Contains xs x × Contains (f x) y)
member_of_part f [] y there = absurd (no_member y there)
member_of_part f (x ∷ xs) y there = elim (Contains-append_cases (f x) (flat_map f xs) y there) [
  | inl here ↦ (x, (first_member x xs, here))
  | inr later ↦ let part = member_of_part f xs y later in (part.0, (later_member x xs part.0 part.1.0, part.1.1))
]

pub member_made : {X Y : Type 0} (f : X → Y) (xs : List X) (y : Y) → Contains (map f xs) y → (x : X) × (Contains xs x × (f x ≡ y))
member_made f [] y there = absurd (no_member y there)
member_made f (x ∷ xs) y there = elim (member_cases (f x) (map f xs) y there) [
  | inl here ↦ (x, (first_member x xs, here))
  | inr later ↦ let part = member_made f xs y later in (part.0, (later_member x xs part.0 part.1.0, part.1.1))
]

-- a member that passed a test is one of the list
pub member_kept : {X : Type 0} (p : X → Bool) (xs : List X) (y : X) → Contains (filter p xs) y → Contains xs y
member_kept p [] y there = there
member_kept {X = X} p (x ∷ xs) y there = go (p x) there (member_kept p xs y) where
  go : (b : Bool) → Contains (cond b (x ∷ filter p xs) (filter p xs)) y → (Contains (filter p xs) y → Contains xs y) → Contains (x ∷ xs) y
  go true kept rest = elim (member_cases x (filter p xs) y kept) [ inl here ↦ (0, omega arith, here) | inr later ↦ later_member x xs y (rest later) ]
  go false kept rest = later_member x xs y (rest kept)

-- a number below the end is one of a range's
pub range_member : (n k : ℕ) → k < n → Contains (range_with_len 0 n) k
range_member n k inside =
    let near : k < length (range_with_len 0 n) = omega (arith, length-range_with_len 0 n) in
    let there = Contains-get_or (range_with_len 0 n) k 0 near in
    subst (Contains (range_with_len 0 n)) (get_or-range_with_len 0 n k 0 inside ∙ zero-add k) there
