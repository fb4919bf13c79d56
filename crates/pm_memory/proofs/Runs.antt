-- How runs of steps are put together of single steps.
use Rattle.std.proofs.Common.{◌≡◌, suc, ◌+◌, Bool, true, false, T, List, [], ◌∷◌, take, if◌then◌else◌, Result, Ok, Err, refl, ap, arith, IsErr, rules}
use Rattle.pm_view.specs.Counts.{IsAtStop, counted, is_counted}
use Rattle.pm_view.specs.Steps.{Step}
use Rattle.pm_view.specs.Steps.Step.{SetStop}
use Rattle.pm_view.specs.View.{View}
use Rattle.pm_view.specs.Views.{after, after_all}
use Rattle.pm_memory.specs.Runs.{Ran, Stops}
use Rattle.pm_memory.specs.declared.lane_mem.Stopped.{Stopped}

-- an error leaves what a stop left
pub ran_err : {T : Type 0} (new : View → Type 0) (v : View) (steps : List Step) (result : Result T Stopped) → IsErr result → Stops new v steps → Ran new v steps result
ran_err new v steps (Ok answer) error stops = absurd (search rules)
ran_err new v steps (Err stopped) error stops = stops

-- no steps are left
pub ran_nothing : {T : Type 0} (new : View → Type 0) (v : View) (answer : T) → new v → Ran new v [] (Ok answer)
unfolding after_all
ran_nothing new v answer seen = seen

-- one counted step is one counted call
counted-one : (s : Step) → T (is_counted s) → counted (s ∷ []) ≡ 1
unfolding counted
counted-one s counts = of (is_counted s) counts
  where
    of : (b : Bool) → T b → (if b then 1 else 0) + 0 ≡ 1
    of true is = refl
    of false is = absurd is

-- the lane was at its stop number before the first step
pub stops_at_once : (new : View → Type 0) (v : View) (s : Step) (steps : List Step) → T (is_counted s) → new (after v SetStop) → IsAtStop v → Stops new v (s ∷ steps)
unfolding after_all counted
stops_at_once new v s steps counts seen stopped = record { made = 0; fewer = omega arith; seen = seen; stopped = stopped; due = counted-one s counts }

-- it stopped after the first step
pub stops_after : (new : View → Type 0) (v : View) (s : Step) (steps : List Step) → Stops new (after v s) steps → Stops new v (s ∷ steps)
unfolding after_all counted
stops_after new v s steps stop = record {
  made = suc stop.made;
  fewer = omega (arith, stop.fewer);
  seen = stop.seen;
  stopped = stop.stopped;
  due =
      let next : suc stop.made + 1 ≡ suc (stop.made + 1) = omega arith in
      let more : counted (take (suc stop.made + 1) (s ∷ steps)) ≡ (if is_counted s then 1 else 0) + counted (take (stop.made + 1) steps) = ap (λ n. counted (take n (s ∷ steps))) next in
      let d = stop.due in
      omega (arith, d, more);
}

-- one step was made, and then these ran
pub ran_after : {T : Type 0} (new : View → Type 0) (v : View) (s : Step) (steps : List Step) (result : Result T Stopped) → Ran new (after v s) steps result → Ran new v (s ∷ steps) result
unfolding after_all
ran_after new v s steps (Ok answer) ran = ran
ran_after new v s steps (Err stopped) ran = stops_after new v s steps ran
