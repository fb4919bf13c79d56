-- RUNS: the steps of all lanes, one after another, in whatever order they interleave.
use Rattle.std.specs.Prelude.{◌≡◌, ℕ, ◌<◌, List, [], ◌∷◌}
use Rattle.pm_view.specs.Steps.{Step}
use Rattle.pm_view.specs.Views.{after}
use Rattle.pm_world.specs.Course.{past_after}
use Rattle.pm_world.specs.Lawful.{IsLawful}
use Rattle.pm_world.specs.Laws.{Turn}
use Rattle.pm_world.specs.Memory.{Memory}
use Rattle.pm_world.specs.Moves.{Moves}
use Rattle.pm_world.specs.World.{Opening, Views, Past, World}

-- a step, and the lane that makes it
pub record LaneStep : Type 0 where
  pub lane : ℕ
  pub step : Step

-- the memory, the views and the ghosts at some moment
pub record Moment : Type 0 where
  pub mem : Memory
  pub views : Views
  pub past : Past

-- one lawful step of one lane that runs leads from a moment to the next
pub record Leads (o : Opening) (old : Moment) (t : LaneStep) (new : Moment) : Type 0 where
  pub runs : t.lane < o.lanes
  pub lawful : IsLawful (old.views t.lane) t.step
  pub moves : Moves t.lane t.step old.mem new.mem
  pub view : Turn old.views new.views t.lane (after (old.views t.lane) t.step)
  pub past : new.past ≡ past_after old.past (old.views t.lane) t.step

-- the moments of a run, each led to from the one before
unfoldable pub IsRun : Opening → Moment → List LaneStep → Moment → Type 0
IsRun o old [] new = new ≡ old
IsRun o old (t ∷ rest) new = (next : Moment) × Leads o old t next × IsRun o next rest new

abbrev pub IsWorld : Opening → Moment → Type 0
IsWorld o m = World o m.mem m.views m.past

-- every run of lawful steps, of any lanes in any order, leads from a world to a world
abbrev pub RunsKeepWorlds : Type 0
RunsKeepWorlds = (o : Opening) (turns : List LaneStep) (old new : Moment) → IsWorld o old
    → IsRun o old turns new → IsWorld o new
