-- LISTS THAT RISE by a number of their elements: two with the same elements are the same.
use Rattle.std.proofs.Common.{◌≡◌, ◌⊎◌, inl, inr, ℕ, zero, suc, ◌<◌, Bool, true, false, cond, All, List, [], ◌∷◌, ◌++◌, length, map, reverse, get_or, refl, sym, ap, ◌∙◌, subst, arith}
use Rattle.std.specs.List.{AllZip, filter}
use Rattle.std.proofs.lemmas.List.{reverse-append}
use Rattle.std.proofs.lemmas.List.Elements.{All-tail}

-- ---- ELEMENTS, by recursion

abbrev pub Has : {X : Type 0} → List X → X → Type 0
Has [] x = ⊥
Has (y ∷ ys) x = (y ≡ x) ⊎ Has ys x

pub has_at : {X : Type 0} (xs : List X) (k : ℕ) (d x : X) → k < length xs → get_or xs k d ≡ x → Has xs x
has_at [] k d x low is = absurd (omega arith)
has_at (y ∷ ys) zero d x low is = inl is
has_at (y ∷ ys) (suc k) d x low is = inr (has_at ys k d x (omega arith) is)

pub record Place {X : Type 0} (xs : List X) (x : X) : Type 0 where
  pub at : ℕ
  pub low : at < length xs
  pub is : (d : X) → get_or xs at d ≡ x

further : {X : Type 0} (y : X) (ys : List X) (x : X) → Place ys x → Place (y ∷ ys) x
further y ys x p = let low : p.at < length ys = p.low in record { at = suc p.at; low = omega arith; is = λ d. p.is d }

pub place_of : {X : Type 0} (xs : List X) (x : X) → Has xs x → Place xs x
place_of [] x there = absurd there
place_of (y ∷ ys) x (inl is) = record { at = 0; low = omega arith; is = λ d. is }
place_of (y ∷ ys) x (inr there) = further y ys x (place_of ys x there)

pub all_has : {X : Type 0} (P : X → Type 0) (xs : List X) (x : X) → All P xs → Has xs x → P x
all_has P [] x all there = absurd there
all_has P (y ∷ ys) x all (inl is) = subst P is (all 0 y (omega arith))
all_has P (y ∷ ys) x all (inr there) = all_has P ys x (All-tail P y ys all) there

pub has_all : {X : Type 0} (P : X → Type 0) (xs : List X) → ((x : X) → Has xs x → P x) → All P xs
has_all P xs each k d low = each (get_or xs k d) (has_at xs k d (get_or xs k d) low refl)

pub has_left : {X : Type 0} (xs ys : List X) (x : X) → Has xs x → Has (xs ++ ys) x
has_left [] ys x there = absurd there
has_left (z ∷ xs) ys x (inl is) = inl is
has_left (z ∷ xs) ys x (inr there) = inr (has_left xs ys x there)

pub has_right : {X : Type 0} (xs ys : List X) (x : X) → Has ys x → Has (xs ++ ys) x
has_right [] ys x there = there
has_right (z ∷ xs) ys x there = inr (has_right xs ys x there)

pub in_either : {X : Type 0} (xs ys : List X) (x : X) → Has (xs ++ ys) x → Has xs x ⊎ Has ys x
in_either [] ys x there = inr there
in_either (z ∷ xs) ys x (inl is) = inl (inl is)
in_either (z ∷ xs) ys x (inr there) = elim (in_either xs ys x there) [ inl l ↦ inl (inr l) | inr r ↦ inr r ]

pub record Mapped {X Y : Type 0} (f : X → Y) (xs : List X) (y : Y) : Type 0 where
  pub of : X
  pub there : Has xs of
  pub is : f of ≡ y

pub in_map : {X Y : Type 0} (f : X → Y) (xs : List X) (y : Y) → Has (map f xs) y → Mapped f xs y
in_map f [] y there = absurd there
in_map f (x ∷ xs) y (inl is) = record { of = x; there = inl refl; is = is }
in_map f (x ∷ xs) y (inr there) = let m = in_map f xs y there in record { of = m.of; there = inr m.there; is = m.is }

pub map_has : {X Y : Type 0} (f : X → Y) (xs : List X) (x : X) → Has xs x → Has (map f xs) (f x)
map_has f [] x there = absurd there
map_has f (y ∷ xs) x (inl is) = inl (ap f is)
map_has f (y ∷ xs) x (inr there) = inr (map_has f xs x there)

-- ---- FILTERS

filter_step : {X : Type 0} (y : X) (rest : List X) (x : X) (b : Bool) → Has (cond b (y ∷ rest) rest) x → ((b ≡ true) × (y ≡ x)) ⊎ Has rest x
filter_step y rest x true (inl is) = inl (refl, is)
filter_step y rest x true (inr there) = inr there
filter_step y rest x false there = inr there

pub in_filter : {X : Type 0} (p : X → Bool) (xs : List X) (x : X) → Has (filter p xs) x → Has xs x × (p x ≡ true)
in_filter p [] x there = absurd there
in_filter p (y ∷ ys) x there = elim (filter_step y (filter p ys) x (p y) there) [
  | inl here ↦ (inl here.1, ap p (sym here.1) ∙ here.0)
  | inr further ↦ let more = in_filter p ys x further in (inr more.0, more.1)
]

pub more_passes : {X : Type 0} (y : X) (rest : List X) (x : X) (b : Bool) → Has rest x → Has (cond b (y ∷ rest) rest) x
more_passes y rest x true there = inr there
more_passes y rest x false there = there

pub filter_has : {X : Type 0} (p : X → Bool) (xs : List X) (x : X) → Has xs x → p x ≡ true → Has (filter p xs) x
filter_has p [] x there passes = absurd there
filter_has p (y ∷ ys) x (inl is) passes = subst (λ b. Has (cond b (y ∷ filter p ys) (filter p ys)) x) (sym (ap p is ∙ passes)) (inl is)
filter_has p (y ∷ ys) x (inr there) passes = more_passes y (filter p ys) x (p y) (filter_has p ys x there passes)

-- ---- RISING AND FALLING

abbrev pub Rises : {X : Type 0} → (X → ℕ) → List X → Type 0
Rises f [] = Unit {0}
Rises {X} f (x ∷ xs) = ((y : X) → Has xs y → f x < f y) × Rises f xs

abbrev pub Falls : {X : Type 0} → (X → ℕ) → List X → Type 0
Falls f [] = Unit {0}
Falls {X} f (x ∷ xs) = ((y : X) → Has xs y → f y < f x) × Falls f xs

pub rises_push : {X : Type 0} (f : X → ℕ) (xs : List X) (x : X) → Rises f xs → ((y : X) → Has xs y → f y < f x) → Rises f (xs ++ x ∷ [])
rises_push f [] x rises below = (λ y there. absurd there, tt)
rises_push {X} f (z ∷ xs) x rises below = (
  λ y there. elim (in_either xs (x ∷ []) y there) [
    | inl old ↦ rises.0 y old
    | inr new ↦ elim new [ inl is ↦ subst (λ (u : X). f z < f u) is (below z (inl refl)) | inr none ↦ absurd none ]
  ],
  rises_push f xs x rises.1 (λ y there. below y (inr there)),
)

-- each element before the last is below it
pub rises_to : {X : Type 0} (f : X → ℕ) (xs : List X) (x : X) → Rises f (xs ++ x ∷ []) → (y : X) → Has xs y → f y < f x
rises_to f [] x rises y there = absurd there
rises_to {X} f (z ∷ xs) x rises y (inl is) = subst (λ (u : X). f u < f x) is (rises.0 x (has_right xs (x ∷ []) x (inl refl)))
rises_to f (z ∷ xs) x rises y (inr there) = rises_to f xs x rises.1 y there

reverse_cons : {X : Type 0} (y : X) (ys : List X) → reverse (y ∷ ys) ≡ reverse ys ++ y ∷ []
reverse_cons y ys = reverse-append (y ∷ []) ys

pub in_reverse : {X : Type 0} (xs : List X) (x : X) → Has (reverse xs) x → Has xs x
in_reverse [] x there = absurd there
in_reverse {X} (y ∷ ys) x there = elim (in_either (reverse ys) (y ∷ []) x (subst (λ (l : List X). Has l x) (reverse_cons y ys) there)) [
  | inl old ↦ inr (in_reverse ys x old)
  | inr new ↦ elim new [ inl is ↦ inl is | inr none ↦ absurd none ]
]

pub reverse_has : {X : Type 0} (xs : List X) (x : X) → Has xs x → Has (reverse xs) x
reverse_has [] x there = absurd there
reverse_has {X} (y ∷ ys) x (inl is) = subst (λ (l : List X). Has l x) (sym (reverse_cons y ys)) (has_right (reverse ys) (y ∷ []) x (inl is))
reverse_has {X} (y ∷ ys) x (inr there) = subst (λ (l : List X). Has l x) (sym (reverse_cons y ys)) (has_left (reverse ys) (y ∷ []) x (reverse_has ys x there))

pub reverse_rises : {X : Type 0} (f : X → ℕ) (xs : List X) → Falls f xs → Rises f (reverse xs)
reverse_rises f [] falls = tt
reverse_rises {X} f (x ∷ xs) falls = subst (λ (l : List X). Rises f l) (sym (reverse_cons x xs)) (rises_push f (reverse xs) x (reverse_rises f xs falls.1) (λ y there. falls.0 y (in_reverse xs y there)))

pub map_falls : {X Y : Type 0} (g : X → Y) (f : Y → ℕ) (xs : List X) → Falls (λ x. f (g x)) xs → Falls f (map g xs)
map_falls g f [] falls = tt
map_falls {X} {Y} g f (x ∷ xs) falls =
    (λ y there. let m = in_map g xs y there in subst (λ (u : Y). f u < f (g x)) m.is (falls.0 m.of m.there), map_falls g f xs falls.1)

filter_case : {X : Type 0} (f : X → ℕ) (x : X) (rest : List X) (b : Bool) → ((y : X) → Has rest y → f x < f y) → Rises f rest → Rises f (cond b (x ∷ rest) rest)
filter_case f x rest true above rises = (above, rises)
filter_case f x rest false above rises = rises

pub filter_rises : {X : Type 0} (f : X → ℕ) (p : X → Bool) (xs : List X) → Rises f xs → Rises f (filter p xs)
filter_rises f p [] rises = tt
filter_rises f p (x ∷ xs) rises =
    filter_case f x (filter p xs) (p x) (λ y there. rises.0 y (in_filter p xs y there).0) (filter_rises f p xs rises.1)

-- ---- TWO THAT RISE

same_first : {X : Type 0} (f : X → ℕ) (x y : X) (xs ys : List X) → Rises f (x ∷ xs) → Rises f (y ∷ ys) → Has (y ∷ ys) x → Has (x ∷ xs) y → x ≡ y
same_first f x y xs ys r s (inl is) from = sym is
same_first f x y xs ys r s (inr there) (inl is) = is
same_first f x y xs ys r s (inr there) (inr back) =
    let one = s.0 x there in
    let other = r.0 y back in
    absurd (omega (arith, one, other))

same_rest : {X : Type 0} (f : X → ℕ) (x y : X) (xs ys : List X) → x ≡ y → ((z : X) → Has xs z → f x < f z) → ((z : X) → Has (x ∷ xs) z → Has (y ∷ ys) z) → (z : X) → Has xs z → Has ys z
same_rest {X} f x y xs ys same above to z there = elim (to z (inr there)) [
  | inl is ↦
      let up = above z there in
      let here : f x ≡ f z = ap f (same ∙ is) in
      absurd (omega (arith, up, here))
  | inr rest ↦ rest
]

pub same_rising : {X : Type 0} (f : X → ℕ) (xs ys : List X) → Rises f xs → Rises f ys → ((z : X) → Has xs z → Has ys z) → ((z : X) → Has ys z → Has xs z) → xs ≡ ys
same_rising f [] [] r s to from = refl
same_rising f [] (y ∷ ys) r s to from = absurd (from y (inl refl))
same_rising f (x ∷ xs) [] r s to from = absurd (to x (inl refl))
same_rising f (x ∷ xs) (y ∷ ys) r s to from =
    let first = same_first f x y xs ys r s (to x (inl refl)) (from y (inl refl)) in
    let rest = same_rising f xs ys r.1 s.1 (same_rest f x y xs ys first r.0 to) (same_rest f y x ys xs (sym first) s.0 from) in
    λ i. first i ∷ rest i

-- an element of one that rises is known by its number
pub one_of_number : {X : Type 0} (f : X → ℕ) (xs : List X) (x y : X) → Rises f xs → Has xs x → Has xs y → f x ≡ f y → x ≡ y
one_of_number f [] x y r there other same = absurd there
one_of_number f (z ∷ xs) x y r (inl is) (inl too) same = sym is ∙ too
one_of_number {X} f (z ∷ xs) x y r (inl is) (inr other) same =
    let up = r.0 y other in
    let here : f z ≡ f x = ap f is in
    absurd (omega (arith, up, here))
one_of_number {X} f (z ∷ xs) x y r (inr there) (inl too) same =
    let up = r.0 x there in
    let here : f z ≡ f y = ap f too in
    absurd (omega (arith, up, here))
one_of_number f (z ∷ xs) x y r (inr there) (inr other) same = one_of_number f xs x y r.1 there other same

-- ---- PLACE BY PLACE

pub record Paired {X Y : Type 0} (R : X → Y → Type 0) (xs : List X) (y : Y) : Type 0 where
  pub other : X
  pub there : Has xs other
  pub pair : R other y

pub zip_left : {X Y : Type 0} (R : X → Y → Type 0) (xs : List X) (ys : List Y) → AllZip R xs ys → (x : X) → Has xs x → Paired (λ (y : Y) (z : X). R z y) ys x
zip_left R [] ys zip x there = absurd there
zip_left R (z ∷ xs) [] zip x there = absurd zip
zip_left {X} R (z ∷ xs) (y ∷ ys) zip x (inl is) = record { other = y; there = inl refl; pair = subst (λ (u : X). R u y) is zip.0 }
zip_left R (z ∷ xs) (y ∷ ys) zip x (inr there) =
    let p = zip_left R xs ys zip.1 x there in
    record { other = p.other; there = inr p.there; pair = p.pair }

pub zip_right : {X Y : Type 0} (R : X → Y → Type 0) (xs : List X) (ys : List Y) → AllZip R xs ys → (y : Y) → Has ys y → Paired R xs y
zip_right R xs [] zip y there = absurd there
zip_right R [] (z ∷ ys) zip y there = absurd zip
zip_right {X} {Y} R (x ∷ xs) (z ∷ ys) zip y (inl is) = record { other = x; there = inl refl; pair = subst (λ (u : Y). R x u) is zip.0 }
zip_right R (x ∷ xs) (z ∷ ys) zip y (inr there) =
    let p = zip_right R xs ys zip.1 y there in
    record { other = p.other; there = inr p.there; pair = p.pair }

pub zip_rises : {X Y : Type 0} (R : X → Y → Type 0) (f : X → ℕ) (g : Y → ℕ) → ((x : X) (y : Y) → R x y → f x ≡ g y) → (xs : List X) (ys : List Y) → AllZip R xs ys → Rises g ys → Rises f xs
zip_rises R f g same [] ys zip rises = tt
zip_rises R f g same (x ∷ xs) [] zip rises = absurd zip
zip_rises {X} {Y} R f g same (x ∷ xs) (y ∷ ys) zip rises = (
  λ z there.
      let p = zip_left R xs ys zip.1 z there in
      let up = rises.0 p.other p.there in
      let one = same x y zip.0 in
      let two = same z p.other p.pair in
      omega (arith, up, one, two),
  zip_rises R f g same xs ys zip.1 rises.1,
)

pub zip_push : {X Y : Type 0} (R : X → Y → Type 0) (xs : List X) (ys : List Y) (x : X) (y : Y) → AllZip R xs ys → R x y → AllZip R (xs ++ x ∷ []) (ys ++ y ∷ [])
zip_push R [] [] x y zip one = (one, tt)
zip_push R [] (z ∷ ys) x y zip one = absurd zip
zip_push R (z ∷ xs) [] x y zip one = absurd zip
zip_push R (z ∷ xs) (w ∷ ys) x y zip one = (zip.0, zip_push R xs ys x y zip.1 one)

pub zip_through : {X Y Z : Type 0} (R : X → Y → Type 0) (S : Y → Z → Type 0) (T : X → Z → Type 0) → ((x : X) (y : Y) (z : Z) → R x y → S y z → T x z) → (xs : List X) (ys : List Y) (zs : List Z) → AllZip R xs ys → AllZip S ys zs → AllZip T xs zs
zip_through R S T both [] [] [] one two = tt
zip_through R S T both [] [] (z ∷ zs) one two = absurd two
zip_through R S T both [] (y ∷ ys) zs one two = absurd one
zip_through R S T both (x ∷ xs) [] zs one two = absurd one
zip_through R S T both (x ∷ xs) (y ∷ ys) [] one two = absurd two
zip_through R S T both (x ∷ xs) (y ∷ ys) (z ∷ zs) one two = (both x y z one.0 two.0, zip_through R S T both xs ys zs one.1 two.1)
