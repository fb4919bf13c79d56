-- An operation is told: one step that every lane with an open call may make.
use Rattle.std.proofs.Common.{Err, Ok}
use Rattle.solo_memory.specs.Runs.{Made, Stops}
use Rattle.solo_memory.specs.declared.lane_mem.Stopped.{Stopped}
use Rattle.solo_view.specs.Steps.{Step}
use Rattle.solo_view.specs.View.{View}
use Rattle.solo_view.specs.Views.{after_all}
use Rattle.solo_world.specs.Sequences.{Sequence, IsReady, Ready, Runs, one}

pub runs_made : (old new : View → Type 0) (s : Step) → Made old new s → Runs {T = Unit {0}} old new (one s) (Ok tt)
unfolding Runs one after_all
runs_made old new s made v seen r = (made v seen).0

-- what was made from a view is seen
pub was_made : {T : Type 0} (old new : View → Type 0) (steps : Sequence) (answer : T) → Runs {T = T} old new steps (Ok answer) → (v : View) → old v → Ready v (steps v) → new (after_all v (steps v))
unfolding Runs
was_made old new steps answer runs v seen r = runs v seen r

-- where it stopped, the first of the steps were made
pub was_stopped : (old new : View → Type 0) (steps : Sequence) (stopped : Stopped) → Runs {T = Unit {0}} old new steps (Err stopped) → (v : View) → old v → Ready v (steps v) → Stops new v (steps v)
unfolding Runs
was_stopped old new steps stopped runs v seen r = runs v seen r

-- a view from which a sequence may be made
pub is_ready : (old : View → Type 0) (steps : Sequence) (v : View) → old v → Ready v (steps v) → IsReady old steps
unfolding IsReady
is_ready old steps v seen r = (v, (seen, r))
