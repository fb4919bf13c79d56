-- What plans of redo logging lead to.
use Rattle.std.proofs.Common.{◌≡◌, ⊎_elim, ℕ, zero, suc, ◌<◌, ◌≤◌, List, [], ◌∷◌, length, get_or, sym, subst, arith}
use Rattle.std.specs.List.{AllByRecursion}
use Rattle.pm_record.specs.declared.redo.Op.{Op}
use Rattle.pm_record.specs.declared.redo.Op.TheVariants.{Set, Or, And}
use Rattle.pm_view.specs.Counts.{HasRoom}
use Rattle.pm_view.specs.Steps.{Step}
use Rattle.pm_view.specs.Steps.Step.{Store, Or as OrStep, And as AndStep}
use Rattle.pm_view.specs.View.{View}
use Rattle.pm_view.specs.Views.{after, after_all}
use Rattle.pm_world.specs.Lawful.{Allowed}
use Rattle.pm_plan.specs.Plans.{IsPersisted, ands, makes_room, one, ors, persists_all, stores}
use Rattle.pm_plan.proofs.Going.{Goes, goes_one, goes_then, persists_all_lawful, room_lawful}
use Rattle.pm_redo.specs.Plans.{does}

-- where there is room none is made
pub goes_roomy : (P : View → Type 0) → ((v : View) → P v → HasRoom v.changes) → Goes P makes_room P
goes_roomy P roomy v p =
    let r = room_lawful v in
    let room = roomy v p in (
      r.0,
      ⊎_elim (λ (same : after_all v (makes_room v) ≡ v). subst P (sym same) p)
          (λ (full : (512 ≤ length v.changes) × IsPersisted v (after_all v (makes_room v))). absurd
          (let f = full.0 in omega (arith, f, room))) r.1.1,
    )

pub goes_persist : (P Q : View → Type 0) → ((v u : View) → P v → IsPersisted v u → Q u)
    → Goes P persists_all Q
goes_persist P Q step v p = let r = persists_all_lawful v in
    (r.0, step v (after_all v (persists_all v)) p r.1)

-- the step of an operation on a word
abbrev pub step_of : Op → ℕ → ℕ → ℕ → Step
step_of Set w x found = Store w x
step_of Or w x found = OrStep w x found
step_of And w x found = AndStep w x found

pub goes_does : (P Q : View → Type 0) (op : Op) (w x found : ℕ)
    → ((v : View) → P v → HasRoom v.changes) → ((v : View) → P v → Allowed v (step_of op w x found)
    × Q (after v (step_of op w x found))) → Goes P (does op w x found) Q
unfolding stores ors ands
goes_does P Q Set w x found roomy step = goes_then P P Q makes_room (one (Store w x))
    (goes_roomy P roomy) (goes_one P Q (Store w x) (λ v p. let r = step v p in (r.0, tt, r.1)))
goes_does P Q Or w x found roomy step = goes_then P P Q makes_room (one (OrStep w x found))
    (goes_roomy P roomy)
    (goes_one P Q (OrStep w x found) (λ v p. let r = step v p in (r.0, tt, r.1)))
goes_does P Q And w x found roomy step = goes_then P P Q makes_room (one (AndStep w x found))
    (goes_roomy P roomy)
    (goes_one P Q (AndStep w x found) (λ v p. let r = step v p in (r.0, tt, r.1)))

-- what is so of all is so of each
pub at_index : {A : Type 0} (P : A → Type 0) (xs : List A) (d : A) (k : ℕ) → AllByRecursion P xs
    → k < length xs → P (get_or xs k d)
at_index P [] d k all low = absurd (omega (arith, low))
at_index P (x ∷ xs) d zero all low = all.0
at_index P (x ∷ xs) d (suc k) all low = at_index P xs d k all.1 (omega (arith, low))
