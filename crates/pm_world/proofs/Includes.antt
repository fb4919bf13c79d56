-- Lists by their members, the other way: what a list that is made from another contains.
use Rattle.std.proofs.Common.{◌≡◌, ⊎_elim, Bool, true, false, cond, List, [], ◌∷◌, map, refl, sym, ◌∙◌, ap, subst}
use Rattle.std.specs.List.{Contains, filter, flat_map}
use Rattle.std.proofs.lemmas.List.Elements.{Contains-append_left, Contains-append_right}
use Rattle.pm_image.proofs.Members.{first_member, later_member, member_cases, no_member}

-- what a function makes of a member
pub made_member : {X Y : Type 0} (f : X → Y) (xs : List X) (x : X) → Contains xs x → Contains (map f xs) (f x)
made_member f [] x there = absurd (no_member x there)
made_member f (y ∷ xs) x there = ⊎_elim
    (λ (here : y ≡ x). subst (λ z. Contains (f y ∷ map f xs) (f z)) here (first_member (f y) (map f xs)))
    (λ (later : Contains xs x). later_member (f y) (map f xs) (f x) (made_member f xs x later))
    (member_cases y xs x there)

-- a member of the part that a function makes of a member
pub part_member : {X Y : Type 0} (f : X → List Y) (xs : List X) (x : X) (y : Y) → Contains xs x → Contains (f x) y → Contains (flat_map f xs) y
part_member f [] x y there part = absurd (no_member x there)
part_member f (z ∷ xs) x y there part = ⊎_elim
    (λ (here : z ≡ x). Contains-append_left (f z) (flat_map f xs) y (subst (λ a. Contains (f a) y) (sym here) part))
    (λ (later : Contains xs x). Contains-append_right (f z) (flat_map f xs) y (part_member f xs x y later part))
    (member_cases z xs x there)

-- a member that passes the test is kept, and what is kept passes
pub kept_member : {X : Type 0} (p : X → Bool) (xs : List X) (x : X) → Contains xs x → p x ≡ true → Contains (filter p xs) x
kept_member p [] x there passes = there
kept_member {X = X} p (y ∷ xs) x there passes = ⊎_elim
    (λ (here : y ≡ x). subst (λ b. Contains (cond b (y ∷ filter p xs) (filter p xs)) x) (sym (ap p here ∙ passes)) (subst (λ z. Contains (y ∷ filter p xs) z) here (first_member y (filter p xs))))
    (λ (later : Contains xs x). either (p y) (kept_member p xs x later passes))
    (member_cases y xs x there) where
      either : (b : Bool) → Contains (filter p xs) x → Contains (cond b (y ∷ filter p xs) (filter p xs)) x
      either true rest = later_member y (filter p xs) x rest
      either false rest = rest

pub kept_passes : {X : Type 0} (p : X → Bool) (xs : List X) (x : X) → Contains (filter p xs) x → p x ≡ true
kept_passes p [] x there = absurd (no_member x there)
kept_passes {X = X} p (y ∷ xs) x there = go (p y) refl there (kept_passes p xs x) where
  go : (b : Bool) → p y ≡ b → Contains (cond b (y ∷ filter p xs) (filter p xs)) x → (Contains (filter p xs) x → p x ≡ true) → p x ≡ true
  go true is kept rest = ⊎_elim (λ (here : y ≡ x). ap p (sym here) ∙ is) (λ (later : Contains (filter p xs) x). rest later) (member_cases y (filter p xs) x kept)
  go false is kept rest = rest kept
