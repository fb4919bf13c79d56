-- Runs of lawful steps lead from worlds to worlds.
use Rattle.std.specs.Prelude.{List, [], ◌∷◌}
use Rattle.std.proofs.Common.{sym, subst}
use Rattle.pm_world.specs.Runs.{LaneStep, Moment, Leads, IsRun, IsWorld}
use Rattle.pm_world.specs.World.{Opening, Past, World}
use Rattle.pm_world.proofs.EveryStep.{every_step}

pub next_world : (o : Opening) (t : LaneStep) (old new : Moment) → IsWorld o old → Leads o old t new → IsWorld o new
next_world o t old new x l = subst (λ (g : Past). World o new.mem new.views g) (sym l.past)
    (every_step t.step o old.mem new.mem old.views new.views old.past t.lane x l.runs l.lawful l.moves l.view).0

pub runs_keep : (o : Opening) (turns : List LaneStep) (old new : Moment) → IsWorld o old → IsRun o old turns new → IsWorld o new
unfolding IsRun
runs_keep o [] old new x run = subst (IsWorld o) (sym run) x
runs_keep o (t ∷ rest) old new x run = runs_keep o rest run.0 new (next_world o t old run.0 x run.1) run.2
