-- Steps that find something: their plans for what is found.
use Rattle.std.proofs.Common.{◌≡◌, ℕ, T, IsErr, Result, Ok, Err, subst, sym, refl, rules}
use Rattle.pm_memory.specs.Runs.{MadeOrStopped}
use Rattle.pm_memory.specs.declared.lane_mem.Stopped.{Stopped}
use Rattle.pm_view.specs.Counts.{is_counted}
use Rattle.pm_view.specs.Steps.{Step}
use Rattle.pm_view.specs.Steps.Step.{Or, And}
use Rattle.pm_view.specs.View.{View}
use Rattle.pm_world.specs.Lawful.{Allowed}
use Rattle.pm_plan.specs.Plans.{Plan, IsReady, Runs, RunsFinding, ands, in_turn, makes_room, one, ors}
use Rattle.pm_plan.proofs.Plans.{allowed_one, ready_first, ready_then, runs_err, runs_one, runs_then}

pub allowed_finding : (old : View → Type 0) (s : ℕ → Step) → ((found : ℕ) → IsReady old (one (s found))) → (found : ℕ) → (v : View) × (old v × Allowed v (s found))
allowed_finding old s r found = allowed_one old (s found) (r found)

pub runs_finding : (may : View → Step → Type 0) (old new : View → Type 0) (s : ℕ → Step) (result : Result ℕ Stopped) → ((found : ℕ) → T (is_counted (s found))) → ((v : View) (t : Step) → Allowed v t → may v t)
    → MadeOrStopped may old new s result → RunsFinding old new (λ found. one (s found)) result
runs_finding may old new s (Ok found) counts grants made = runs_one may old new (s found) (Ok found) (counts found) grants made
runs_finding may old new s (Err stopped) counts grants made = λ found. runs_one may old new (s found) (Err stopped) (counts found) grants made

-- room is made first
module _ (old : View → Type 0) (plans t : ℕ → Plan) (s : Plan) (is : (found : ℕ) → plans found ≡ in_turn s (t found)) where
  pub room_ready : ((found : ℕ) → IsReady old (plans found)) → IsReady old s
  room_ready r = ready_first old s (t 0) (subst (IsReady old) (is 0) (r 0))

  pub step_ready : (A : Type 0) (mid : View → Type 0) (answer : A) → ((found : ℕ) → IsReady old (plans found)) → Runs old mid s (Ok answer) → (found : ℕ) → IsReady mid (t found)
  step_ready A mid answer r runs found = ready_then old mid s (t found) answer (subst (IsReady old) (is found) (r found)) runs

  pub finding_then : (A : Type 0) (mid new : View → Type 0) (answer : A) (result : Result ℕ Stopped) → Runs old mid s (Ok answer) → RunsFinding mid new t result → RunsFinding old new plans result
  finding_then A mid new answer (Ok found) first second = subst (λ (p : Plan). Runs old new p (Ok found)) (sym (is found)) (runs_then old mid new s (t found) answer (Ok found) first second)
  finding_then A mid new answer (Err stopped) first second = λ found. subst (λ (p : Plan). Runs {T = ℕ} old new p (Err stopped)) (sym (is found)) (runs_then old mid new s (t found) answer (Err stopped) first (second found))

  pub finding_err : (A : Type 0) (new : View → Type 0) (stopped : Stopped) (result : Result ℕ Stopped) → IsErr result → Runs {T = A} old new s (Err stopped) → RunsFinding old new plans result
  finding_err A new stopped (Ok found) error runs = absurd (search rules)
  finding_err A new stopped (Err e) error runs = λ found. subst (λ (p : Plan). Runs {T = ℕ} old new p (Err e)) (sym (is found)) (runs_err A old new s (t found) stopped (Err e) (search rules) runs)

pub ors_is : (w bits found : ℕ) → ors w bits found ≡ in_turn makes_room (one (Or w bits found))
unfolding ors
ors_is w bits found = refl

pub ands_is : (w bits found : ℕ) → ands w bits found ≡ in_turn makes_room (one (And w bits found))
unfolding ands
ands_is w bits found = refl
