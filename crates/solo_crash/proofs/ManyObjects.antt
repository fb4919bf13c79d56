-- Objects after actions, without those at some offsets, and with new ones: what stands at each offset, which rise still.
use Rattle.std.proofs.Common.{◌≡◌, ◌≢◌, ⊎_elim, ℕ, ◌||◌, Bool, true, false, cond, eqb, List, [], ◌∷◌, map, Option, Some, None, refl, sym, ◌∙◌, ap, subst}
use Rattle.std.specs.Prelude.{nat_eq}
use Rattle.std.specs.List.{AllByRecursion, Contains, IsDistinct, list_any}
use Rattle.std.specs.List.Sorted.{IsStrictlyIncreasing}
use Rattle.std.specs.Option.{option_map}
use Rattle.std.proofs.lemmas.Bool.{cases_eq, eqb-false, eqb-true, false≢true, ne_eqb, or_from, or_parts}
use Rattle.pm_objects.specs.Pool.{Objects, object_at, offsets}
use Rattle.pm_objects.specs.declared.pool.Object.{Object}
use Rattle.pm_image.proofs.Members.{first_member, later_member, member_cases, no_member}
use Rattle.solo_model.specs.Actions.{Action, all_performed, number_bytes, object_of, performed_on}
use Rattle.solo_model.specs.Actions.Action.{SetWord}
use Rattle.solo_model.specs.Bytes.{is_among, put_object, with_bytes}
use Rattle.solo_model.specs.NewObjects.{with_object, without_object}
use Rattle.solo_model.proofs.Objects.{object_at-put, offsets-put}
use Rattle.solo_model.proofs.ObjectsByOffset.{fewer_elsewhere, fewer_rise, fewer_there, more_elsewhere, more_rise, more_there}
use Rattle.solo_crash.specs.CallBlocks.{NewObject, is_at}

-- ---- after actions

same_behind_one : (a : Action) (xs ys : Objects) (off : ℕ) → object_at xs off ≡ object_at ys off → object_at (performed_on a xs) off ≡ object_at (performed_on a ys) off
same_behind_one (SetWord id at value) xs ys off same =
    object_at-put id.off at (number_bytes value) xs off
    ∙ ap (λ (o : Option Object). cond (eqb off id.off) (option_map (with_bytes at (number_bytes value)) o) o) same
    ∙ sym (object_at-put id.off at (number_bytes value) ys off)

-- what stands at an offset after actions is told by what stood there before them
pub same_performed : (actions : List Action) (xs ys : Objects) (off : ℕ) → object_at xs off ≡ object_at ys off → object_at (all_performed actions xs) off ≡ object_at (all_performed actions ys) off
unfolding all_performed
same_performed [] xs ys off same = same
same_performed (a ∷ actions) xs ys off same = same_performed actions (performed_on a xs) (performed_on a ys) off (same_behind_one a xs ys off same)

performed_on_nothing : (actions : List Action) → all_performed actions [] ≡ []
unfolding all_performed put_object
performed_on_nothing [] = refl
performed_on_nothing (SetWord id at value ∷ actions) = performed_on_nothing actions

-- so nothing does where nothing stood
pub none_performed : (actions : List Action) (objects : Objects) (off : ℕ) → object_at objects off ≡ None → object_at (all_performed actions objects) off ≡ None
none_performed actions objects off none = same_performed actions objects [] off none ∙ ap (λ (es : Objects). object_at es off) (performed_on_nothing actions)

-- and what no action is on stands as it did
pub untouched : (actions : List Action) (objects : Objects) (off : ℕ) → ((a : Action) → Contains actions a → (object_of a).off ≢ off) → object_at (all_performed actions objects) off ≡ object_at objects off
unfolding all_performed
untouched [] objects off others = refl
untouched (SetWord id at value ∷ actions) objects off others =
    let new : List ℕ = number_bytes value in
    let other : off ≢ id.off = λ same. others (SetWord id at value) (first_member (SetWord id at value) actions) (sym same) in
    untouched actions (put_object id.off at new objects) off (λ a there. others a (later_member (SetWord id at value) actions a there))
    ∙ object_at-put id.off at new objects off
    ∙ ap (λ (b : Bool). cond b (option_map (with_bytes at new) (object_at objects off)) (object_at objects off)) (ne_eqb off id.off other)

pub performed_rise : (actions : List Action) (objects : Objects) → IsStrictlyIncreasing (offsets objects) → IsStrictlyIncreasing (offsets (all_performed actions objects))
unfolding all_performed
performed_rise [] objects rising = rising
performed_rise (SetWord id at value ∷ actions) objects rising =
    performed_rise actions (put_object id.off at (number_bytes value) objects)
    (subst IsStrictlyIncreasing (sym (offsets-put id.off at (number_bytes value) objects)) rising)

-- ---- without those at some offsets

unfoldable pub without_objects : List ℕ → Objects → Objects
without_objects [] objects = objects
without_objects (off ∷ offs) objects = without_objects offs (without_object off objects)

pub without_elsewhere : (offs : List ℕ) (objects : Objects) (off : ℕ) → is_among offs off ≡ false → object_at (without_objects offs objects) off ≡ object_at objects off
unfolding without_objects
without_elsewhere [] objects off other = refl
without_elsewhere (o ∷ offs) objects off other =
    let parts = or_parts (eqb o off) (is_among offs off) other in
    without_elsewhere offs (without_object o objects) off parts.1 ∙ fewer_elsewhere objects o off (λ same. eqb-false o off parts.0 (sym same))

-- where nothing stood nothing does
pub without_none : (offs : List ℕ) (objects : Objects) (off : ℕ) → object_at objects off ≡ None → object_at (without_objects offs objects) off ≡ None
unfolding without_objects
without_none [] objects off none = none
without_none (o ∷ offs) objects off none = without_none offs (without_object o objects) off (⊎_elim
    (λ (here : off ≡ o). subst (λ (n : ℕ). object_at (without_object o objects) n ≡ None) (sym here) (fewer_there objects o))
    (λ (other : off ≢ o). fewer_elsewhere objects o off other ∙ none)
    (cases_eq off o))

pub without_there : (offs : List ℕ) (objects : Objects) (off : ℕ) → is_among offs off ≡ true → object_at (without_objects offs objects) off ≡ None
unfolding without_objects
without_there [] objects off among = absurd (false≢true among)
without_there (o ∷ offs) objects off among = go (eqb o off) refl among (without_there offs (without_object o objects) off) where
  go : (t : Bool) → eqb o off ≡ t → (t || is_among offs off) ≡ true → (is_among offs off ≡ true → object_at (without_objects offs (without_object o objects)) off ≡ None)
      → object_at (without_objects offs (without_object o objects)) off ≡ None
  go true is first rest = without_none offs (without_object o objects) off (subst (λ (n : ℕ). object_at (without_object o objects) n ≡ None) (eqb-true o off is) (fewer_there objects o))
  go false is later rest = rest later

pub without_rise : (offs : List ℕ) (objects : Objects) → IsStrictlyIncreasing (offsets objects) → IsStrictlyIncreasing (offsets (without_objects offs objects))
unfolding without_objects
without_rise [] objects rising = rising
without_rise (off ∷ offs) objects rising = without_rise offs (without_object off objects) (fewer_rise objects off rising)

-- ---- with new ones, each as this gives it

unfoldable pub with_objects : (NewObject → Object) → List NewObject → Objects → Objects
with_objects by [] objects = objects
with_objects by (n ∷ news) objects = with_objects by news (with_object n.off (by n) objects)

-- no two of them are at one offset
abbrev pub AreOnce : List NewObject → Type 0
AreOnce news = IsDistinct nat_eq (map (λ (n : NewObject). n.off) news)

-- nothing stands where they come to
abbrev pub HasNone : Objects → List NewObject → Type 0
HasNone objects news = (n : NewObject) → Contains news n → object_at objects n.off ≡ None

not_at : (off : ℕ) (news : List NewObject) → AllByRecursion (λ y. nat_eq off y ≡ false) (map (λ (n : NewObject). n.off) news) → list_any (is_at off) news ≡ false
not_at off [] apart = refl
not_at off (n ∷ news) apart = or_from (eqb n.off off) (list_any (is_at off) news) (ne_eqb n.off off (λ same. eqb-false off n.off apart.0 (sym same))) (not_at off news apart.1)

-- one of some that are not at an offset is not
pub none_at : (off : ℕ) (news : List NewObject) (n : NewObject) → list_any (is_at off) news ≡ false → Contains news n → n.off ≢ off
none_at off [] n none there = absurd (no_member n there)
none_at off (m ∷ news) n none there =
    let parts = or_parts (eqb m.off off) (list_any (is_at off) news) none in
    ⊎_elim
    (λ (here : m ≡ n). λ same. eqb-false m.off off parts.0 (ap (λ (x : NewObject). x.off) here ∙ same))
    (λ (later : Contains news n). none_at off news n parts.1 later)
    (member_cases m news n there)

-- and of some that are, one is
pub some_at : (off : ℕ) (news : List NewObject) → list_any (is_at off) news ≡ true → (n : NewObject) × (Contains news n × (n.off ≡ off))
some_at off [] some = absurd (false≢true some)
some_at off (m ∷ news) some = go (eqb m.off off) refl some (some_at off news) where
  go : (t : Bool) → eqb m.off off ≡ t → (t || list_any (is_at off) news) ≡ true → (list_any (is_at off) news ≡ true → (n : NewObject) × (Contains news n × (n.off ≡ off)))
      → (n : NewObject) × (Contains (m ∷ news) n × (n.off ≡ off))
  go true is first rest = (m, (first_member m news, eqb-true m.off off is))
  go false is later rest = let found = rest later in (found.0, (later_member m news found.0 found.1.0, found.1.1))

-- the first is at an offset of its own
pub others_apart : (n : NewObject) (news : List NewObject) → AreOnce (n ∷ news) → (list_any (is_at n.off) news ≡ false) × AreOnce news
unfolding IsDistinct
others_apart n news once = (not_at n.off news once.0, once.1)

-- so nothing stands where the others come to, with the first there already
none_still : (by : NewObject → Object) (n : NewObject) (news : List NewObject) (objects : Objects) → AreOnce (n ∷ news) → HasNone objects (n ∷ news) → HasNone (with_object n.off (by n) objects) news
none_still by n news objects once none m there =
    more_elsewhere objects n.off m.off (by n) (none_at n.off news m (others_apart n news once).0 there)
    ∙ none m (later_member n news m there)

pub with_elsewhere : (by : NewObject → Object) (news : List NewObject) (objects : Objects) (off : ℕ) → list_any (is_at off) news ≡ false → object_at (with_objects by news objects) off ≡ object_at objects off
unfolding with_objects
with_elsewhere by [] objects off other = refl
with_elsewhere by (n ∷ news) objects off other =
    let parts = or_parts (eqb n.off off) (list_any (is_at off) news) other in
    with_elsewhere by news (with_object n.off (by n) objects) off parts.1
    ∙ more_elsewhere objects n.off off (by n) (λ same. eqb-false n.off off parts.0 (sym same))

pub with_there : (by : NewObject → Object) (news : List NewObject) (objects : Objects) (n : NewObject) → AreOnce news → HasNone objects news → Contains news n
    → object_at (with_objects by news objects) n.off ≡ Some (by n)
unfolding with_objects
with_there by [] objects n once none there = absurd (no_member n there)
with_there by (m ∷ news) objects n once none there =
    let more : Objects = with_object m.off (by m) objects in
    let apart = others_apart m news once in
    ⊎_elim
    (λ (here : m ≡ n). subst (λ (x : NewObject). object_at (with_objects by news more) x.off ≡ Some (by x)) here
    (with_elsewhere by news more m.off apart.0 ∙ more_there objects m.off (by m) (none m (first_member m news))))
    (λ (later : Contains news n). with_there by news more n apart.1 (none_still by m news objects once none) later)
    (member_cases m news n there)

pub with_rise : (by : NewObject → Object) (news : List NewObject) (objects : Objects) → AreOnce news → HasNone objects news → IsStrictlyIncreasing (offsets objects)
    → IsStrictlyIncreasing (offsets (with_objects by news objects))
unfolding with_objects
with_rise by [] objects once none rising = rising
with_rise by (n ∷ news) objects once none rising =
    with_rise by news (with_object n.off (by n) objects) (others_apart n news once).1 (none_still by n news objects once none)
    (more_rise objects n.off (by n) rising (none n (first_member n news)))
