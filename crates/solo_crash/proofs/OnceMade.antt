-- What a call made stands once at an offset: so it is with one more elsewhere, and without some; and in a pool one object alone is at an offset.
use Rattle.std.proofs.Common.{◌≡◌, ◌≢◌, ⊎_elim, ℕ, ◌||◌, Bool, true, false, not, cond, eqb, List, [], ◌∷◌, ◌++◌, map, Some, None, refl, sym, ◌∙◌, ap, subst, arith}
use Rattle.std.specs.Prelude.{nat_eq}
use Rattle.std.specs.List.{AllByRecursion, Contains, IsDistinct, filter, list_any}
use Rattle.std.specs.List.Sorted.{IsStrictlyIncreasing}
use Rattle.std.proofs.lemmas.Bool.{cond-false, cond-true, eq-eqb, eqb-false, eqb-true, false≢true, ne_eqb, or_parts}
use Rattle.std.proofs.lemmas.List.Folds.{list_any-append}
use Rattle.std.proofs.lemmas.Map.Views.{any-filter_same}
use Rattle.std.proofs.Math.Bool.{or-false}
use Rattle.pm_objects.specs.Pool.{Objects, object_at, offsets}
use Rattle.pm_objects.specs.declared.pool.Object.{Object}
use Rattle.pm_image.proofs.Members.{first_member, later_member, member_cases, no_member}
use Rattle.solo_model.proofs.Objects.{absent, rising_tail}
use Rattle.solo_crash.specs.CallBlocks.{NewObject, is_at}
use Rattle.solo_crash.proofs.ManyObjects.{AreOnce, none_at, others_apart}

-- ---- lists in parts

pub member_kept : {X : Type 0} (p : X → Bool) (xs : List X) (x : X) → Contains (filter p xs) x → Contains xs x × (p x ≡ true)
member_kept p [] x there = absurd (no_member x there)
member_kept {X = X} p (y ∷ ys) x there = go (p y) refl there (member_kept p ys x) where
  further : Contains ys x × (p x ≡ true) → Contains (y ∷ ys) x × (p x ≡ true)
  further later = (later_member y ys x later.0, later.1)

  go : (t : Bool) → p y ≡ t → Contains (cond t (y ∷ filter p ys) (filter p ys)) x → (Contains (filter p ys) x → Contains ys x × (p x ≡ true)) → Contains (y ∷ ys) x × (p x ≡ true)
  go true is within rest = ⊎_elim
      (λ (here : y ≡ x). (subst (Contains (y ∷ ys)) here (first_member y ys), ap p (sym here) ∙ is))
      (λ (later : Contains (filter p ys) x). further (rest later))
      (member_cases y (filter p ys) x within)
  go false is within rest = further (rest within)

none_kept : {X : Type 0} (p : X → Bool) (xs : List X) → list_any p xs ≡ false → filter p xs ≡ []
none_kept p [] none = refl
none_kept p (x ∷ xs) none = let parts = or_parts (p x) (list_any p xs) none in cond-false (p x) (x ∷ filter p xs) (filter p xs) parts.0 ∙ none_kept p xs parts.1

-- ---- what a call made

-- two at one offset are one
pub one_at_offset : (news : List NewObject) (n m : NewObject) → AreOnce news → Contains news n → Contains news m → n.off ≡ m.off → n ≡ m
one_at_offset [] n m once there too same = absurd (no_member n there)
one_at_offset (k ∷ ks) n m once there too same =
    let apart = others_apart k ks once in
    ⊎_elim
    (λ (here : k ≡ n). ⊎_elim
    (λ (also : k ≡ m). sym here ∙ also)
    (λ (later : Contains ks m). absurd (none_at k.off ks m apart.0 later (sym same ∙ ap (λ (x : NewObject). x.off) (sym here))))
    (member_cases k ks m too))
    (λ (later : Contains ks n). ⊎_elim
    (λ (also : k ≡ m). absurd (none_at k.off ks n apart.0 later (same ∙ ap (λ (x : NewObject). x.off) (sym also))))
    (λ (rest : Contains ks m). one_at_offset ks n m apart.1 later rest same)
    (member_cases k ks m too))
    (member_cases k ks n there)

-- none of them is at this offset
abbrev Apart : ℕ → List NewObject → Type 0
Apart off news = AllByRecursion (λ y. nat_eq off y ≡ false) (map (λ (n : NewObject). n.off) news)

apart_more : (off : ℕ) (news : List NewObject) (n : NewObject) → Apart off news → n.off ≢ off → Apart off (news ++ n ∷ [])
apart_more off [] n apart differ = (ne_eqb off n.off (λ same. differ (sym same)), tt)
apart_more off (m ∷ ms) n apart differ = (apart.0, apart_more off ms n apart.1 differ)

pub once_more : (news : List NewObject) (n : NewObject) → AreOnce news → list_any (is_at n.off) news ≡ false → AreOnce (news ++ n ∷ [])
unfolding IsDistinct
once_more [] n once none = (tt, tt)
once_more (m ∷ ms) n once none =
    let parts = or_parts (eqb m.off n.off) (list_any (is_at n.off) ms) none in
    (apart_more m.off ms n once.0 (λ same. eqb-false m.off n.off parts.0 (sym same)), once_more ms n once.1 parts.1)

apart_kept : (off : ℕ) (p : NewObject → Bool) (news : List NewObject) → Apart off news → Apart off (filter p news)
apart_kept off p [] apart = apart
apart_kept off p (m ∷ ms) apart = go (p m) (apart_kept off p ms apart.1) where
  go : (t : Bool) → Apart off (filter p ms) → Apart off (cond t (m ∷ filter p ms) (filter p ms))
  go true rest = (apart.0, rest)
  go false rest = rest

pub once_kept : (p : NewObject → Bool) (news : List NewObject) → AreOnce news → AreOnce (filter p news)
unfolding IsDistinct
once_kept p [] once = once
once_kept p (m ∷ ms) once = go (p m) (once_kept p ms once.1) where
  go : (t : Bool) → AreOnce (filter p ms) → AreOnce (cond t (m ∷ filter p ms) (filter p ms))
  go true rest = (apart_kept m.off p ms once.0, rest)
  go false rest = rest

-- the one at an offset is alone there
pub alone_there : (news : List NewObject) (n : NewObject) → AreOnce news → Contains news n → filter (is_at n.off) news ≡ n ∷ []
alone_there [] n once there = absurd (no_member n there)
alone_there (m ∷ ms) n once there =
    let apart = others_apart m ms once in
    ⊎_elim
    (λ (here : m ≡ n). subst (λ (x : NewObject). filter (is_at x.off) (m ∷ ms) ≡ x ∷ []) here
    (cond-true (is_at m.off m) (m ∷ filter (is_at m.off) ms) (filter (is_at m.off) ms) (eq-eqb m.off m.off refl) ∙ ap (λ (xs : List NewObject). m ∷ xs) (none_kept (is_at m.off) ms apart.0)))
    (λ (later : Contains ms n).
    cond-false (is_at n.off m) (m ∷ filter (is_at n.off) ms) (filter (is_at n.off) ms) (ne_eqb m.off n.off (λ same. none_at m.off ms n apart.0 later (sym same))) ∙ alone_there ms n apart.1 later)
    (member_cases m ms n there)

-- without those at an offset, each other is among them as before
pub made_without : (off other : ℕ) (news : List NewObject) → other ≢ off → list_any (is_at other) (filter (λ n. not (is_at off n)) news) ≡ list_any (is_at other) news
made_without off other news differ =
    any-filter_same (is_at other) (λ n. not (is_at off n)) true (λ n at. ap not (ne_eqb n.off off (λ same. differ (sym (eqb-true n.off other at) ∙ same)))) news

-- and with one more elsewhere
pub made_beside : (n : NewObject) (other : ℕ) (news : List NewObject) → other ≢ n.off → list_any (is_at other) (news ++ n ∷ []) ≡ list_any (is_at other) news
made_beside n other news differ =
    list_any-append (is_at other) news (n ∷ [])
    ∙ (ap (λ (b : Bool). list_any (is_at other) news || (b || false)) (ne_eqb n.off other (λ same. differ (sym same))) ∙ or-false (list_any (is_at other) news))

-- one that is left is not at that offset
pub left_elsewhere : (off : ℕ) (n : NewObject) → not (is_at off n) ≡ true → n.off ≢ off
left_elsewhere off n left same = false≢true (sym (ap not (eq-eqb n.off off same)) ∙ left)

-- their offsets
pub offsets_without : (off : ℕ) (news : List NewObject) → filter (λ other. not (eqb other off)) (map (λ (n : NewObject). n.off) news) ≡ map (λ (n : NewObject). n.off) (filter (λ n. not (is_at off n)) news)
offsets_without off [] = refl
offsets_without off (n ∷ news) = go (not (eqb n.off off)) (offsets_without off news) where
  go : (t : Bool) → filter (λ other. not (eqb other off)) (map (λ (m : NewObject). m.off) news) ≡ map (λ (m : NewObject). m.off) (filter (λ m. not (is_at off m)) news)
      → cond t (n.off ∷ filter (λ other. not (eqb other off)) (map (λ (m : NewObject). m.off) news)) (filter (λ other. not (eqb other off)) (map (λ (m : NewObject). m.off) news))
      ≡ map (λ (m : NewObject). m.off) (cond t (n ∷ filter (λ m. not (is_at off m)) news) (filter (λ m. not (is_at off m)) news))
  go true rest = ap (λ (offs : List ℕ). n.off ∷ offs) rest
  go false rest = rest

-- ---- objects of a pool

-- where nothing stands no entry is
none_listed : (objects : Objects) (off : ℕ) → object_at objects off ≡ None → filter (λ entry. eqb entry.0 off) objects ≡ []
none_listed [] off none = refl
none_listed (e ∷ es) off none = go (eqb e.0 off) none (none_listed es off) where
  go : (t : Bool) → cond t (Some e.1) (object_at es off) ≡ None → (object_at es off ≡ None → filter (λ entry. eqb entry.0 off) es ≡ [])
      → cond t (e ∷ filter (λ entry. eqb entry.0 off) es) (filter (λ entry. eqb entry.0 off) es) ≡ []
  go true found rest = absurd (let clash : Some e.1 ≡ None = found in cc)
  go false found rest = rest found

-- of objects in rising offsets one alone is at an offset
pub object_alone : (objects : Objects) (off : ℕ) (object : Object) → IsStrictlyIncreasing (offsets objects) → object_at objects off ≡ Some object
    → filter (λ entry. eqb entry.0 off) objects ≡ (off, object) ∷ []
object_alone [] off object rising is = absurd (let clash : None ≡ Some object = is in cc)
object_alone (e ∷ es) off object rising is = go (eqb e.0 off) refl is (object_alone es off object (rising_tail e.0 (offsets es) rising)) where
  go : (t : Bool) → eqb e.0 off ≡ t → cond t (Some e.1) (object_at es off) ≡ Some object → (object_at es off ≡ Some object → filter (λ entry. eqb entry.0 off) es ≡ (off, object) ∷ [])
      → cond t (e ∷ filter (λ entry. eqb entry.0 off) es) (filter (λ entry. eqb entry.0 off) es) ≡ (off, object) ∷ []
  go true here found rest =
      let at : e.0 ≡ off = eqb-true e.0 off here in
      let same : e.1 ≡ object = cc in
      let none : object_at es off ≡ None = absent es e.0 off rising (omega (arith, at)) in
      (λ j. (at j, same j) ∷ none_listed es off none j)
  go false other found rest = rest found
