-- What a lane's calls did, as seen in its views.
use Rattle.std.specs.Prelude.{◌≡◌, ℕ, ◌+◌, ◌<◌, List, length, take, Result, Ok, Err}
use Rattle.pm_view.specs.View.{View}
use Rattle.pm_view.specs.Steps.{Step}
use Rattle.pm_view.specs.Steps.Step.{SetStop}
use Rattle.pm_view.specs.Views.{after, after_all}
use Rattle.pm_view.specs.Founds.{Found}
use Rattle.pm_view.specs.Counts.{MayCount, IsAtStop, counted}
use Rattle.pm_memory.specs.declared.lane_mem.Stopped.{Stopped}

-- what a memory promises of a step, it promises for the views that allow it: a memory says which.
-- This one asks nothing of a view
abbrev pub AnyStep : View → Step → Type 0
AnyStep v s = Unit {0}

-- the step was made: whatever view the memory was seen as that allows it, the memory is now seen
-- as that after the step, and the reply is what the view knows
abbrev pub Made : (View → Step → Type 0) → (View → Type 0) → (View → Type 0) → Step → Type 0
Made may old new s = (v : View) → old v → may v s → new (after v s) × Found v s

-- the counted step with its answer was made, or the lane is at its stop number and the stop word
-- was set in its place
abbrev pub MadeOrStopped : {T : Type 0} → (View → Step → Type 0) → (View → Type 0) → (View → Type 0) → (T → Step) → Result T Stopped → Type 0
MadeOrStopped may old new s (Ok answer) = (v : View) → old v → may v (s answer) → new (after v (s answer)) × Found v (s answer) × MayCount v
MadeOrStopped may old new s (Err stopped) = (v : View) → old v → new (after v SetStop) × IsAtStop v

-- some of the steps were made, the first of them, and the next is a counted one at the lane's stop
-- number
pub record Stops (new : View → Type 0) (v : View) (steps : List Step) : Type 0 where
  pub made : ℕ
  pub fewer : made < length steps
  pub seen : new (after_all v (take made steps))
  pub stopped : IsAtStop (after_all v (take made steps))
  pub due : counted (take (made + 1) steps) ≡ counted (take made steps) + 1

-- from this view all of the steps were made, or the first of them up to the stop
abbrev pub Ran : {T : Type 0} → (View → Type 0) → View → List Step → Result T Stopped → Type 0
Ran new v steps (Ok answer) = new (after_all v steps)
Ran new v steps (Err stopped) = Stops new v steps
