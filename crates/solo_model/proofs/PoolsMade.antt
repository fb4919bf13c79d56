-- A pool with a new object that is apart from all is a pool, and without one that is not the root, in no list and has no members.
use Rattle.std.proofs.Common.{◌≡◌, ◌≢◌, ⊎_elim, ℕ, ◌≤◌, All, Bool, true, false, not, cond, eqb, leb, ltb, ◌||◌, List, [], ◌∷◌, ◌++◌, get_or, length, Option, Some, None, refl, sym, ◌∙◌, ap, subst, arith}
use Rattle.std.specs.Prelude.{IfSome, IsSome, nat_eq}
use Rattle.std.specs.List.{IsDistinct}
use Rattle.std.specs.List.Sorted.{IsStrictlyIncreasing}
use Rattle.std.specs.Option.{is_some, option_map_or}
use Rattle.std.proofs.lemmas.Bool.{cases_eq, eq-eqb, eqb-true, false≢true, leb-false, or_parts}
use Rattle.std.proofs.lemmas.List.Elements.{All-cons, All-filter, All-head, All-nil, All-tail}
use Rattle.std.proofs.lemmas.List.Folds.{list_any_at}
use Rattle.pm_objects.specs.Pool.{IsPool, Objects, all_members, object_at, offsets}
use Rattle.pm_objects.specs.declared.pool.Object.{Object}
use Rattle.pm_objects.specs.declared.pool.PoolView.{PoolView}
use Rattle.solo_model.specs.Answers.{IsBeside}
use Rattle.solo_model.specs.Bytes.{is_among}
use Rattle.solo_model.specs.Checks.{is_listed}
use Rattle.solo_model.specs.NewObjects.{pool_with, pool_without, with_object, without_object}
use Rattle.solo_model.proofs.Blocks.{apart_from_lie, lie_from_apart, lie_with, lie_without, none_beside}
use Rattle.solo_model.proofs.Objects.{absent, rising_tail}
use Rattle.solo_model.proofs.ObjectsByOffset.{fewer_elsewhere, fewer_rise, fewer_there, more_elsewhere, more_rise}

pub if_some : (root : Option ℕ) (P Q : ℕ → Type 0) → ((off : ℕ) → P off → Q off) → IfSome root P → IfSome root Q
if_some None P Q implies holds = holds
if_some (Some off) P Q implies holds = implies off holds

-- what holds of each object and of one more
all_with : (P : ℕ × Object → Type 0) (off : ℕ) (object : Object) (objects : Objects) → P (off, object) → All P objects → All P (with_object off object objects)
unfolding with_object
all_with P off object [] new all = All-cons P (off, object) [] new (All-nil P)
all_with P off object (e ∷ es) new all = go (ltb off e.0) (all_with P off object es new (All-tail P e es all)) where
  go : (t : Bool) → All P (with_object off object es) → All P (cond t ((off, object) ∷ e ∷ es) (e ∷ with_object off object es))
  go true rest = All-cons P (off, object) (e ∷ es) new all
  go false rest = All-cons P e (with_object off object es) (All-head P e es all) rest

all_without : (P : ℕ × Object → Type 0) (off : ℕ) (objects : Objects) → All P objects → All P (without_object off objects)
unfolding without_object
all_without P off objects all = All-filter (λ entry. not (eqb entry.0 off)) P objects all

-- the members of lists, which neither changes
members_with : (off : ℕ) (object : Object) (objects : Objects) → object.members ≡ [] → all_members (with_object off object objects) ≡ all_members objects
unfolding with_object
members_with off object [] none = ap (λ (members : List ℕ). members ++ []) none
members_with off object (e ∷ es) none = go (ltb off e.0) (members_with off object es none) where
  go : (t : Bool) → all_members (with_object off object es) ≡ all_members es
      → all_members (cond t ((off, object) ∷ e ∷ es) (e ∷ with_object off object es)) ≡ all_members (e ∷ es)
  go true rest = ap (λ (members : List ℕ). members ++ all_members (e ∷ es)) none
  go false rest = ap (λ (members : List ℕ). e.1.members ++ members) rest

abbrev has_members : Option Object → Bool
has_members o = option_map_or (λ (object : Object). leb 1 (length object.members)) o false

no_members : (members : List ℕ) → leb 1 (length members) ≡ false → members ≡ []
no_members [] none = refl
no_members (m ∷ members) none = absurd (let less : length (m ∷ members) ≤ 0 = (let below = leb-false 1 (length (m ∷ members)) none in omega arith) in omega arith)

members_without : (off : ℕ) (objects : Objects) → IsStrictlyIncreasing (offsets objects) → has_members (object_at objects off) ≡ false → all_members (without_object off objects) ≡ all_members objects
unfolding without_object
members_without off [] rising none = refl
members_without off (e ∷ es) rising none = go (eqb e.0 off) refl none (members_without off es (rising_tail e.0 (offsets es) rising)) where
  go : (t : Bool) → eqb e.0 off ≡ t → has_members (cond t (Some e.1) (object_at es off)) ≡ false → (has_members (object_at es off) ≡ false → all_members (without_object off es) ≡ all_members es)
      → all_members (cond (not t) (e ∷ without_object off es) (without_object off es)) ≡ e.1.members ++ all_members es
  go true is first rest =
      let gone : object_at es off ≡ None = absent es e.0 off rising (let same : e.0 ≡ off = eqb-true e.0 off is in omega arith) in
      rest (ap has_members gone) ∙ ap (λ (members : List ℕ). members ++ all_members es) (sym (no_members e.1.members first))
  go false is later rest = ap (λ (members : List ℕ). e.1.members ++ members) (rest later)

-- an object that is in no list and has no members stays so where another such object is freed
pub unlisted_without : (objects : Objects) (off x : ℕ) → IsStrictlyIncreasing (offsets objects) → is_listed objects off ≡ false → is_listed objects x ≡ false → is_listed (without_object off objects) x ≡ false
unlisted_without objects off x rising unlisted other =
    let freed = or_parts (is_among (all_members objects) off) (has_members (object_at objects off)) unlisted in
    let kept = or_parts (is_among (all_members objects) x) (has_members (object_at objects x)) other in
    let among : is_among (all_members (without_object off objects)) x ≡ false = ap (λ (members : List ℕ). is_among members x) (members_without off objects rising freed.1) ∙ kept.0 in
    let lone : has_members (object_at (without_object off objects) x) ≡ false = ⊎_elim
    (λ (same : x ≡ off). ap has_members (ap (object_at (without_object off objects)) same ∙ fewer_there objects off))
    (λ (else : x ≢ off). ap has_members (fewer_elsewhere objects off x else) ∙ kept.1)
    (cases_eq x off) in
    (λ j. among j || lone j)

-- an object that is there stays so
there_with : (objects : Objects) (off : ℕ) (object : Object) → object_at objects off ≡ None → (x : ℕ) → IsSome (object_at objects x) → IsSome (object_at (with_object off object objects) x)
there_with objects off object none x there = ⊎_elim
    (λ (same : x ≡ off). absurd (false≢true (ap (λ (o : Option Object). is_some o) (sym none ∙ ap (object_at objects) (sym same)) ∙ there)))
    (λ (else : x ≢ off). subst (λ (o : Option Object). IsSome o) (sym (more_elsewhere objects off x object else)) there)
    (cases_eq x off)

there_without : (objects : Objects) (off x : ℕ) → x ≢ off → IsSome (object_at objects x) → IsSome (object_at (without_object off objects) x)
there_without objects off x else there = subst (λ (o : Option Object). IsSome o) (sym (fewer_elsewhere objects off x else)) there

-- a pool with a new object, which has no members
pub pool_made : (pool : PoolView) (off : ℕ) (object : Object) → 1 ≤ length object.bytes → length object.bytes ≤ 262080 → object.members ≡ [] → All (IsBeside (length object.bytes) off) pool.objects → IsPool pool
    → IsPool (pool_with off object pool)
pool_made pool off object some most no_members apart is =
    let none : object_at pool.objects off ≡ None = none_beside (length object.bytes) off pool.objects apart in
    let members : all_members (with_object off object pool.objects) ≡ all_members pool.objects = members_with off object pool.objects no_members in
    let there : (x : ℕ) → IsSome (object_at pool.objects x) → IsSome (object_at (with_object off object pool.objects) x) = there_with pool.objects off object none in
    record {
      has_id = is.has_id;
      name_some = is.name_some;
      name_short = is.name_short;
      name_bytes = is.name_bytes;
      shape = is.shape;
      rising = more_rise pool.objects off object is.rising none;
      sizes = all_with (λ entry. (1 ≤ length entry.1.bytes) × (length entry.1.bytes ≤ 262080)) off object pool.objects (some, most) is.sizes;
      apart = apart_from_lie 0 (with_object off object pool.objects) (lie_with 0 off object pool.objects (omega arith) apart (lie_from_apart pool.objects is.apart));
      members_there = subst (λ (offs : List ℕ). All (λ x. IsSome (object_at (with_object off object pool.objects) x)) offs) (sym members)
          (λ k d inside. there (get_or (all_members pool.objects) k d) (is.members_there k d inside));
      members_once = subst (λ (offs : List ℕ). IsDistinct nat_eq offs) (sym members) is.members_once;
      root_there = if_some pool.root (λ x. IsSome (object_at pool.objects x)) (λ x. IsSome (object_at (with_object off object pool.objects) x)) there is.root_there;
    }

root_without : (root : Option ℕ) (objects : Objects) (off : ℕ) → option_map_or (λ r. eqb r off) root false ≡ false → IfSome root (λ x. IsSome (object_at objects x))
    → IfSome root (λ x. IsSome (object_at (without_object off objects) x))
root_without None objects off other there = there
root_without (Some r) objects off other there = there_without objects off r (λ same. false≢true (sym other ∙ eq-eqb r off same)) there

-- and without one
pub pool_freed : (pool : PoolView) (off : ℕ) → option_map_or (λ root. eqb root off) pool.root false ≡ false → is_listed pool.objects off ≡ false → IsPool pool → IsPool (pool_without off pool)
pool_freed pool off not_root unlisted is =
    let parts = or_parts (is_among (all_members pool.objects) off) (has_members (object_at pool.objects off)) unlisted in
    let members : all_members (without_object off pool.objects) ≡ all_members pool.objects = members_without off pool.objects is.rising parts.1 in
    record {
      has_id = is.has_id;
      name_some = is.name_some;
      name_short = is.name_short;
      name_bytes = is.name_bytes;
      shape = is.shape;
      rising = fewer_rise pool.objects off is.rising;
      sizes = all_without (λ entry. (1 ≤ length entry.1.bytes) × (length entry.1.bytes ≤ 262080)) off pool.objects is.sizes;
      apart = apart_from_lie 0 (without_object off pool.objects) (lie_without 0 off pool.objects (lie_from_apart pool.objects is.apart));
      members_there = subst (λ (offs : List ℕ). All (λ x. IsSome (object_at (without_object off pool.objects) x)) offs) (sym members)
          (λ k d inside.
          let member : ℕ = get_or (all_members pool.objects) k d in
          there_without pool.objects off member
          (λ same. false≢true (sym parts.0 ∙ list_any_at (λ other. eqb other off) (all_members pool.objects) k d inside (eq-eqb member off same)))
          (is.members_there k d inside));
      members_once = subst (λ (offs : List ℕ). IsDistinct nat_eq offs) (sym members) is.members_once;
      root_there = root_without pool.root pool.objects off not_root is.root_there;
    }
