-- Objects with one more have it at its offset, and objects without one have none there; at each other offset both have what was there.
use Rattle.std.proofs.Common.{◌≡◌, ◌≢◌, ⊎_elim, ℕ, zero, suc, ◌+◌, ◌<◌, ◌≤◌, Bool, true, false, not, cond, eqb, ltb, List, [], ◌∷◌, get_or, Some, None, refl, sym, ◌∙◌, ap, subst, arith, eq-eqb, ne_eqb}
use Rattle.std.specs.List.{filter}
use Rattle.std.specs.List.Sorted.{IsStrictlyIncreasing}
use Rattle.std.proofs.lemmas.Bool.{cases_lt, eqb-false, eqb-true, ltb-false, ltb-true}
use Rattle.std.proofs.lemmas.List.Kept.{IsStrictlyIncreasing-filter}
use Rattle.pm_objects.specs.Pool.{object_at, Objects, offsets}
use Rattle.pm_objects.specs.declared.pool.Object.{Object}
use Rattle.solo_model.proofs.Objects.{rising_tail}
use Rattle.solo_model.specs.NewObjects.{with_object, without_object}

-- where none is at an offset, none of the objects is
not_first : (e : ℕ × Object) (es : Objects) (off : ℕ) → object_at (e ∷ es) off ≡ None → (e.0 ≢ off) × (object_at es off ≡ None)
not_first e es off none = go (eqb e.0 off) refl none where
  go : (t : Bool) → eqb e.0 off ≡ t → cond t (Some e.1) (object_at es off) ≡ None → (e.0 ≢ off) × (object_at es off ≡ None)
  go true is found = absurd cc
  go false is rest = (eqb-false e.0 off is, rest)

pub more_there : (objects : Objects) (off : ℕ) (object : Object) → object_at objects off ≡ None → object_at (with_object off object objects) off ≡ Some object
unfolding with_object
more_there [] off object none = ap (λ (t : Bool). cond t (Some object) None) (eq-eqb off off refl)
more_there (e ∷ es) off object none = go (ltb off e.0) (not_first e es off none) (more_there es off object) where
  go : (t : Bool) → (e.0 ≢ off) × (object_at es off ≡ None) → (object_at es off ≡ None → object_at (with_object off object es) off ≡ Some object)
      → object_at (cond t ((off, object) ∷ e ∷ es) (e ∷ with_object off object es)) off ≡ Some object
  go true parts rest = ap (λ (t : Bool). cond t (Some object) (object_at (e ∷ es) off)) (eq-eqb off off refl)
  go false parts rest = ap (λ (t : Bool). cond t (Some e.1) (object_at (with_object off object es) off)) (ne_eqb e.0 off parts.0) ∙ rest parts.1

pub more_elsewhere : (objects : Objects) (off other : ℕ) (object : Object) → other ≢ off → object_at (with_object off object objects) other ≡ object_at objects other
unfolding with_object
more_elsewhere [] off other object differ = ap (λ (t : Bool). cond t (Some object) None) (ne_eqb off other (λ same. differ (sym same)))
more_elsewhere (e ∷ es) off other object differ = go (ltb off e.0) (more_elsewhere es off other object differ) where
  go : (t : Bool) → object_at (with_object off object es) other ≡ object_at es other → object_at (cond t ((off, object) ∷ e ∷ es) (e ∷ with_object off object es)) other ≡ object_at (e ∷ es) other
  go true rest = ap (λ (t : Bool). cond t (Some object) (object_at (e ∷ es) other)) (ne_eqb off other (λ same. differ (sym same)))
  go false rest = ap (cond (eqb e.0 other) (Some e.1)) rest

pub fewer_there : (objects : Objects) (off : ℕ) → object_at (without_object off objects) off ≡ None
unfolding without_object
fewer_there [] off = refl
fewer_there (e ∷ es) off = go (eqb e.0 off) refl (fewer_there es off) where
  go : (t : Bool) → eqb e.0 off ≡ t → object_at (without_object off es) off ≡ None → object_at (cond (not t) (e ∷ without_object off es) (without_object off es)) off ≡ None
  go true is rest = rest
  go false is rest = ap (λ (t : Bool). cond t (Some e.1) (object_at (without_object off es) off)) is ∙ rest

pub fewer_elsewhere : (objects : Objects) (off other : ℕ) → other ≢ off → object_at (without_object off objects) other ≡ object_at objects other
unfolding without_object
fewer_elsewhere [] off other differ = refl
fewer_elsewhere (e ∷ es) off other differ = go (eqb e.0 off) refl (fewer_elsewhere es off other differ) where
  go : (t : Bool) → eqb e.0 off ≡ t → object_at (without_object off es) other ≡ object_at es other
      → object_at (cond (not t) (e ∷ without_object off es) (without_object off es)) other ≡ object_at (e ∷ es) other
  go true is rest = rest ∙ sym (ap (λ (t : Bool). cond t (Some e.1) (object_at es other)) (ne_eqb e.0 other (λ same. differ (sym same ∙ eqb-true e.0 off is))))
  go false is rest = ap (cond (eqb e.0 other) (Some e.1)) rest

-- a number below the first of rising ones
rising_front : (x y : ℕ) (ys : List ℕ) → x < y → IsStrictlyIncreasing (y ∷ ys) → IsStrictlyIncreasing (x ∷ y ∷ ys)
rising_front x y ys less rising zero inside = less
rising_front x y ys less rising (suc k) inside =
    let next : suc k + 1 ≡ suc (k + 1) = omega arith in
    subst (λ (n : ℕ). get_or (y ∷ ys) k 0 < get_or (x ∷ y ∷ ys) n 0) (sym next) (rising k (omega arith))

first_less : (x y : ℕ) (ys : List ℕ) → IsStrictlyIncreasing (x ∷ y ∷ ys) → x < y
first_less x y ys rising = rising 0 (omega arith)

one_rises : (x : ℕ) → IsStrictlyIncreasing (x ∷ [])
one_rises x k inside = absurd (omega arith)

-- the offsets rise still
rise_behind : (first off : ℕ) (object : Object) (objects : Objects) → first < off → IsStrictlyIncreasing (first ∷ offsets objects) → object_at objects off ≡ None → IsStrictlyIncreasing (first ∷ offsets (with_object off object objects))
unfolding with_object
rise_behind first off object [] less rising none = rising_front first off [] less (one_rises off)
rise_behind first off object (e ∷ es) less rising none = go (ltb off e.0) refl (not_first e es off none) (rise_behind e.0 off object es) where
  tail : IsStrictlyIncreasing (e.0 ∷ offsets es)
  tail = rising_tail first (e.0 ∷ offsets es) rising

  go : (t : Bool) → ltb off e.0 ≡ t → (e.0 ≢ off) × (object_at es off ≡ None)
      → (e.0 < off → IsStrictlyIncreasing (e.0 ∷ offsets es) → object_at es off ≡ None → IsStrictlyIncreasing (e.0 ∷ offsets (with_object off object es)))
      → IsStrictlyIncreasing (first ∷ offsets (cond t ((off, object) ∷ e ∷ es) (e ∷ with_object off object es)))
  go true before parts rest = rising_front first off (e.0 ∷ offsets es) less (rising_front off e.0 (offsets es) (ltb-true off e.0 before) tail)
  go false after parts rest =
      let differ : e.0 ≢ off = parts.0 in
      let most : e.0 ≤ off = ltb-false off e.0 after in
      let behind : e.0 < off = ⊎_elim (λ (less_still : e.0 < off). less_still) (λ (more : off ≤ e.0). absurd (differ (omega arith))) (cases_lt e.0 off) in
      rising_front first e.0 (offsets (with_object off object es)) (first_less first e.0 (offsets es) rising) (rest behind tail parts.1)

pub more_rise : (objects : Objects) (off : ℕ) (object : Object) → IsStrictlyIncreasing (offsets objects) → object_at objects off ≡ None → IsStrictlyIncreasing (offsets (with_object off object objects))
unfolding with_object
more_rise [] off object rising none = one_rises off
more_rise (e ∷ es) off object rising none = go (ltb off e.0) refl (not_first e es off none) where
  go : (t : Bool) → ltb off e.0 ≡ t → (e.0 ≢ off) × (object_at es off ≡ None) → IsStrictlyIncreasing (offsets (cond t ((off, object) ∷ e ∷ es) (e ∷ with_object off object es)))
  go true before parts = rising_front off e.0 (offsets es) (ltb-true off e.0 before) rising
  go false after parts =
      let differ : e.0 ≢ off = parts.0 in
      let most : e.0 ≤ off = ltb-false off e.0 after in
      let behind : e.0 < off = ⊎_elim (λ (less_still : e.0 < off). less_still) (λ (more : off ≤ e.0). absurd (differ (omega arith))) (cases_lt e.0 off) in
      rise_behind e.0 off object es behind rising parts.1

offsets_kept : (off : ℕ) (objects : Objects) → offsets (without_object off objects) ≡ filter (λ n. not (eqb n off)) (offsets objects)
unfolding without_object
offsets_kept off [] = refl
offsets_kept off (e ∷ es) = go (not (eqb e.0 off)) (offsets_kept off es) where
  go : (t : Bool) → offsets (without_object off es) ≡ filter (λ n. not (eqb n off)) (offsets es)
      → offsets (cond t (e ∷ without_object off es) (without_object off es)) ≡ cond t (e.0 ∷ filter (λ n. not (eqb n off)) (offsets es)) (filter (λ n. not (eqb n off)) (offsets es))
  go true rest = ap (λ (ns : List ℕ). e.0 ∷ ns) rest
  go false rest = rest

pub fewer_rise : (objects : Objects) (off : ℕ) → IsStrictlyIncreasing (offsets objects) → IsStrictlyIncreasing (offsets (without_object off objects))
fewer_rise objects off rising = subst IsStrictlyIncreasing (sym (offsets_kept off objects)) (IsStrictlyIncreasing-filter (λ n. not (eqb n off)) (offsets objects) rising)
