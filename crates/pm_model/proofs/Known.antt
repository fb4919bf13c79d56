-- A pool is known by its plain pool: a list of objects in rising offsets by what stands at each.
use Rattle.std.proofs.Common.{◌≡◌, ◌≢◌, ⊎_elim, ℕ, suc, ◌+◌, ◌<◌, ◌≤◌, List, [], ◌∷◌, get_or, Option, Some, None, Bool, false, cond, eqb, refl, sym, ◌∙◌, ap, subst, arith}
use Rattle.std.specs.Option.{option_map}
use Rattle.std.specs.List.Sorted.{IsStrictlyIncreasing}
use Rattle.std.proofs.lemmas.Bool.{cases_eq, cases_lt, eq-eqb, ne_eqb}
use Rattle.pm_objects.specs.Pool.{IsPool, Objects, offsets, object_at}
use Rattle.pm_objects.specs.declared.pool.Object.{Object}
use Rattle.pm_objects.specs.declared.pool.PoolView.{PoolView}
use Rattle.pm_model.specs.Items.{Item, PlainPool, head_of, item_of, plain_pool}

pub rising_tail : (x : ℕ) (xs : List ℕ) → IsStrictlyIncreasing (x ∷ xs) → IsStrictlyIncreasing xs
rising_tail x xs rising k h =
    let place : suc k + 1 ≡ suc (k + 1) = omega arith in
    subst (λ (n : ℕ). get_or xs k 0 < get_or (x ∷ xs) n 0) place (rising (suc k) (omega arith))

-- below the first offset nothing stands
pub absent : (objects : Objects) (first off : ℕ) → IsStrictlyIncreasing (first ∷ offsets objects)
    → off ≤ first → object_at objects off ≡ None
absent [] first off rising below = refl
absent (entry ∷ objects) first off rising below =
    let above : first < entry.0 = rising 0 (omega arith) in
    let other : eqb entry.0 off ≡ false = ne_eqb entry.0 off (λ same. omega arith) in
    ap (λ (b : Bool). cond b (Some entry.1) (object_at objects off)) other
    ∙ absent objects entry.0 off (rising_tail first (offsets (entry ∷ objects)) rising)
    (omega arith)

at_first : (entry : ℕ × Object) (objects : Objects)
    → object_at (entry ∷ objects) entry.0 ≡ Some entry.1
at_first entry objects = ap (λ (b : Bool). cond b (Some entry.1) (object_at objects entry.0))
    (eq-eqb entry.0 entry.0 refl)

behind_first : (entry : ℕ × Object) (objects : Objects) (off : ℕ) → entry.0 ≢ off
    → object_at (entry ∷ objects) off ≡ object_at objects off
behind_first entry objects off ne =
    ap (λ (b : Bool). cond b (Some entry.1) (object_at objects off)) (ne_eqb entry.0 off ne)

-- an object with a lesser offset than all of a map is not in it
no_lesser : {A : Type 0} (entry : ℕ × Object) (xs ys : Objects) (y : ℕ × Object)
    → IsStrictlyIncreasing (offsets (y ∷ ys)) → entry.0 < y.0
    → object_at (entry ∷ xs) entry.0 ≡ object_at (y ∷ ys) entry.0 → A
no_lesser entry xs ys y rising below same =
    let none : object_at (y ∷ ys) entry.0 ≡ None =
    behind_first y ys entry.0 (λ e. omega arith) ∙ absent ys y.0 entry.0 rising (omega arith) in
    let clash : Some entry.1 ≡ None = sym (at_first entry xs) ∙ (same ∙ none) in
    absurd (let bad : ⊥ = cc in bad)

-- two maps with the same at each offset are one
same_objects : (xs ys : Objects) → IsStrictlyIncreasing (offsets xs)
    → IsStrictlyIncreasing (offsets ys) → ((off : ℕ) → object_at xs off ≡ object_at ys off)
    → xs ≡ ys
same_objects [] [] rx ry same = refl
same_objects [] (y ∷ ys) rx ry same =
    absurd (let clash : None ≡ Some y.1 = same y.0 ∙ at_first y ys in cc)
same_objects (x ∷ xs) [] rx ry same =
    absurd (let clash : Some x.1 ≡ None = sym (at_first x xs) ∙ same x.0 in cc)
same_objects (x ∷ xs) (y ∷ ys) rx ry same = ⊎_elim
    (λ (below : x.0 < y.0). no_lesser x xs ys y ry below (same x.0))
    (λ (from : y.0 ≤ x.0). ⊎_elim
    (λ (above : y.0 < x.0). no_lesser y ys xs x rx above (sym (same y.0)))
    (λ (to : x.0 ≤ y.0).
    let keys : x.0 ≡ y.0 = omega arith in
    let found : Some x.1 ≡ Some y.1 = sym (at_first x xs)
    ∙ (same x.0 ∙ (ap (object_at (y ∷ ys)) keys ∙ at_first y ys)) in
    let values : x.1 ≡ y.1 = cc in
    let rests : (off : ℕ) → object_at xs off ≡ object_at ys off = λ off. ⊎_elim
    (λ (here : x.0 ≡ off). absent xs x.0 off rx (omega arith)
    ∙ sym (absent ys y.0 off ry (omega arith)))
    (λ (else : x.0 ≢ off). sym (behind_first x xs off else)
    ∙ (same off ∙ behind_first y ys off (λ e. else (keys ∙ e))))
    (cases_eq x.0 off) in
    let tails : xs ≡ ys = same_objects xs ys (rising_tail x.0 (offsets xs) rx)
    (rising_tail y.0 (offsets ys) ry) rests in
    (λ i. (keys i, values i) ∷ tails i))
    (cases_lt y.0 x.0))
    (cases_lt x.0 y.0)

-- the object that an item is
object_in : Option Item → Option Object
object_in o =
    option_map (λ (i : Item). record { kind = i.kind; bytes = i.bytes; members = i.members }) o

object_back : (head : Option ℕ) (o : Option Object) → object_in (option_map (item_of head) o) ≡ o
unfolding object_in
object_back head None = refl
object_back head (Some o) = refl

pub same_pools : (v w : PoolView) → IsPool v → IsPool w → plain_pool v ≡ plain_pool w → v ≡ w
same_pools v w is_v is_w same =
    let objects : v.objects ≡ w.objects = same_objects v.objects w.objects is_v.rising is_w.rising
    (λ off. sym (object_back (head_of v.objects off) (object_at v.objects off))
    ∙ (ap (λ (q : PlainPool). object_in (q.items off)) same
    ∙ object_back (head_of w.objects off) (object_at w.objects off))) in
    (λ i. record {
      id = (ap (λ (q : PlainPool). q.id) same) i;
      name = (ap (λ (q : PlainPool). q.name) same) i;
      lanes = (ap (λ (q : PlainPool). q.lanes) same) i;
      zones = (ap (λ (q : PlainPool). q.zones) same) i;
      objects = objects i;
      root = (ap (λ (q : PlainPool). q.root) same) i;
    })
