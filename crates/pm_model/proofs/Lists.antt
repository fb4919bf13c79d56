-- Facts of each element of a list, and the first of a list of tests.
use Rattle.std.proofs.Common.{◌≡◌, ⊎_elim, All, List, [], ◌∷◌, ◌++◌, map, Bool, true, false, cond, ◌&&◌, ◌||◌, Some, None, refl, sym, ◌∙◌, ap}
use Rattle.std.specs.List.{filter, flat_map, list_all, list_any}
use Rattle.std.proofs.lemmas.Bool.{false≢true, or_cases, or_left, or_right, and_parts}
use Rattle.std.proofs.lemmas.List.Elements.{All-cons, All-head, All-nil, All-tail}
use Rattle.pm_model.specs.Refusals.{Test, first_of}

-- P of each element
abbrev pub Each : {A : Type 0} → (A → Type 0) → List A → Type 0
Each P [] = Unit {0}
Each P (x ∷ xs) = P x × Each P xs

module _ {A : Type 0} where
  pub each_append : (P : A → Type 0) (xs ys : List A) → Each P xs → Each P ys → Each P (xs ++ ys)
  each_append P [] ys p q = q
  each_append P (x ∷ xs) ys p q = (p.0, each_append P xs ys p.1 q)

  pub each_left : (P : A → Type 0) (xs ys : List A) → Each P (xs ++ ys) → Each P xs
  each_left P [] ys p = tt
  each_left P (x ∷ xs) ys p = (p.0, each_left P xs ys p.1)

  pub each_right : (P : A → Type 0) (xs ys : List A) → Each P (xs ++ ys) → Each P ys
  each_right P [] ys p = p
  each_right P (x ∷ xs) ys p = each_right P xs ys p.1

  pub each_weaker : (P Q : A → Type 0) (xs : List A) → ((x : A) → P x → Q x) → Each P xs
      → Each Q xs
  each_weaker P Q [] weaker p = tt
  each_weaker P Q (x ∷ xs) weaker p = (weaker x p.0, each_weaker P Q xs weaker p.1)

  -- of two facts
  pub each_both : (P Q R : A → Type 0) (xs : List A) → ((x : A) → P x → Q x → R x) → Each P xs
      → Each Q xs → Each R xs
  each_both P Q R [] joins p q = tt
  each_both P Q R (x ∷ xs) joins p q = (joins x p.0 q.0, each_both P Q R xs joins p.1 q.1)

  pub each_of_all : (P : A → Type 0) (xs : List A) → All P xs → Each P xs
  each_of_all P [] all = tt
  each_of_all P (x ∷ xs) all = (All-head P x xs all, each_of_all P xs (All-tail P x xs all))

  pub all_of_each : (P : A → Type 0) (xs : List A) → Each P xs → All P xs
  all_of_each P [] each = All-nil P
  all_of_each P (x ∷ xs) each = All-cons P x xs each.0 (all_of_each P xs each.1)

  -- what a filter keeps
  pub each_kept : (P : A → Type 0) (q : A → Bool) (xs : List A) → Each P (filter q xs)
      → Each (λ x. q x ≡ true → P x) xs
  each_kept P q [] p = tt
  each_kept P q (x ∷ xs) p = by (q x) refl p (each_kept P q xs) where
    by : (b : Bool) → q x ≡ b → Each P (cond b (x ∷ filter q xs) (filter q xs))
        → (Each P (filter q xs) → Each (λ y. q y ≡ true → P y) xs)
        → (q x ≡ true → P x) × Each (λ y. q y ≡ true → P y) xs
    by true e r rest = (λ t. r.0, rest r.1)
    by false e r rest = (λ t. absurd (false≢true (sym e ∙ t)), rest r)

  -- an element of the list makes any test pass that it passes
  abbrev pub IsIn : List A → A → Type 0
  IsIn xs x = (q : A → Bool) → q x ≡ true → list_any q xs ≡ true

  pub each_in : (xs : List A) → Each (IsIn xs) xs
  each_in [] = tt
  each_in (x ∷ xs) = (
    λ q t. or_left (q x) (list_any q xs) t,
    each_weaker (IsIn xs) (IsIn (x ∷ xs)) xs
        (λ y is q t. or_right (q x) (list_any q xs) (is q t)) (each_in xs),
  )

  -- no element passes a test
  pub none_pass : (q : A → Bool) (xs : List A) → list_any q xs ≡ false → Each (λ x. q x ≡ false) xs
  none_pass q [] e = tt
  none_pass q (x ∷ xs) e = by (q x) refl e (none_pass q xs) where
    by : (b : Bool) → q x ≡ b → (b || list_any q xs) ≡ false
        → (list_any q xs ≡ false → Each (λ y. q y ≡ false) xs)
        → (q x ≡ false) × Each (λ y. q y ≡ false) xs
    by true t e rest = absurd (false≢true (sym e))
    by false f e rest = (f, rest e)

  -- a test that passes finds one
  pub any_from : (Q : Type 0) (q : A → Bool) (xs : List A) → Each (λ x. q x ≡ true → Q) xs
      → list_any q xs ≡ true → Q
  any_from Q q [] each e = absurd (false≢true e)
  any_from Q q (x ∷ xs) each e = ⊎_elim (λ (here : q x ≡ true). each.0 here)
      (λ (there : list_any q xs ≡ true). any_from Q q xs each.1 there)
      (or_cases (q x) (list_any q xs) e)

  pub all_pass : (q : A → Bool) (xs : List A) → list_all q xs ≡ true → Each (λ x. q x ≡ true) xs
  all_pass q [] e = tt
  all_pass q (x ∷ xs) e = let p = and_parts (q x) (list_all q xs) e in (p.0, all_pass q xs p.1)

  -- tests that agree on each element
  pub same_any : (q r : A → Bool) (xs : List A) → Each (λ x. q x ≡ r x) xs
      → list_any q xs ≡ list_any r xs
  same_any q r [] same = refl
  same_any q r (x ∷ xs) same = (λ i. same.0 i || same_any q r xs same.1 i)

  pub any_append : (q : A → Bool) (xs ys : List A)
      → list_any q (xs ++ ys) ≡ (list_any q xs || list_any q ys)
  any_append q [] ys = refl
  any_append q (x ∷ xs) ys = by (q x) (any_append q xs ys) where
    by : (b : Bool) → list_any q (xs ++ ys) ≡ (list_any q xs || list_any q ys)
        → (b || list_any q (xs ++ ys)) ≡ ((b || list_any q xs) || list_any q ys)
    by true rest = refl
    by false rest = rest

module _ {A B : Type 0} where
  pub each_map : (P : B → Type 0) (f : A → B) (xs : List A) → Each (λ x. P (f x)) xs
      → Each P (map f xs)
  each_map P f [] p = tt
  each_map P f (x ∷ xs) p = (p.0, each_map P f xs p.1)

  pub each_unmap : (P : B → Type 0) (f : A → B) (xs : List A) → Each P (map f xs)
      → Each (λ x. P (f x)) xs
  each_unmap P f [] p = tt
  each_unmap P f (x ∷ xs) p = (p.0, each_unmap P f xs p.1)

  pub each_flat : (P : B → Type 0) (f : A → List B) (xs : List A) → Each P (flat_map f xs)
      → Each (λ x. Each P (f x)) xs
  each_flat P f [] p = tt
  each_flat P f (x ∷ xs) p = (
    each_left P (f x) (flat_map f xs) p,
    each_flat P f xs (each_right P (f x) (flat_map f xs) p),
  )

  pub same_flat : (f g : A → List B) (xs : List A) → Each (λ x. f x ≡ g x) xs
      → flat_map f xs ≡ flat_map g xs
  same_flat f g [] same = refl
  same_flat f g (x ∷ xs) same = (λ i. same.0 i ++ same_flat f g xs same.1 i)

-- ---- lists of tests

-- the same refusals, with tests that are the same up to the first that applies
abbrev pub SameTests : List Test → List Test → Type 0
SameTests [] [] = Unit {0}
SameTests [] (y ∷ ys) = ⊥
SameTests (x ∷ xs) [] = ⊥
SameTests (x ∷ xs) (y ∷ ys) = (x.0 ≡ y.0) × (x.1 ≡ y.1) × (y.1 ≡ false → SameTests xs ys)

abbrev pub NoneApplies : List Test → Type 0
NoneApplies tests = Each (λ (t : Test). t.1 ≡ false) tests

pub same_first : (xs ys : List Test) → SameTests xs ys → first_of xs ≡ first_of ys
unfolding first_of
same_first [] [] same = refl
same_first [] (y ∷ ys) same = absurd same
same_first (x ∷ xs) [] same = absurd same
same_first (x ∷ xs) (y ∷ ys) same = (λ i. cond (same.1 i) (Some (same.0 i)) (first_of xs))
    ∙ by y.1 refl (λ e. same_first xs ys (same.2 e)) where
      by : (b : Bool) → y.1 ≡ b → (y.1 ≡ false → first_of xs ≡ first_of ys)
          → cond b (Some y.0) (first_of xs) ≡ cond b (Some y.0) (first_of ys)
      by true e rest = refl
      by false e rest = rest e

pub same_tests : (xs : List Test) → SameTests xs xs
same_tests [] = tt
same_tests (x ∷ xs) = (refl, refl, λ e. same_tests xs)

-- the same front, and after it tests that are the same where none of the front applies
pub same_behind : (xs ys zs : List Test) → (NoneApplies xs → SameTests ys zs)
    → SameTests (xs ++ ys) (xs ++ zs)
same_behind [] ys zs after = after tt
same_behind (x ∷ xs) ys zs after =
    (refl, refl, λ e. same_behind xs ys zs (λ none. after (e, none)))

pub none_applies : (xs : List Test) → first_of xs ≡ None → NoneApplies xs
unfolding first_of
none_applies [] e = tt
none_applies (x ∷ xs) e = by x.1 refl e (none_applies xs) where
  by : (b : Bool) → x.1 ≡ b → cond b (Some x.0) (first_of xs) ≡ None
      → (first_of xs ≡ None → NoneApplies xs) → (x.1 ≡ false) × NoneApplies xs
  by true t none rest = absurd cc
  by false f none rest = (f, rest none)

pub first_none : (xs : List Test) → NoneApplies xs → first_of xs ≡ None
unfolding first_of
first_none [] none = refl
first_none (x ∷ xs) none =
    ap (λ (b : Bool). cond b (Some x.0) (first_of xs)) none.0 ∙ first_none xs none.1

-- with the same tests after them
pub same_append : (xs ys zs : List Test) → SameTests xs ys → SameTests (xs ++ zs) (ys ++ zs)
same_append [] [] zs same = same_tests zs
same_append [] (y ∷ ys) zs same = absurd same
same_append (x ∷ xs) [] zs same = absurd same
same_append (x ∷ xs) (y ∷ ys) zs same = (same.0, same.1, λ e. same_append xs ys zs (same.2 e))

pub all_from : {A : Type 0} (q : A → Bool) (xs : List A) → Each (λ x. q x ≡ true) xs
    → list_all q xs ≡ true
all_from q [] each = refl
all_from q (x ∷ xs) each = (λ i. each.0 i && all_from q xs each.1 i)
