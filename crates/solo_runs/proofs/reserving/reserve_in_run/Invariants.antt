use Rattle.solo_view.specs.View.{View}
use Rattle.solo_runs.specs.Looking.{IsRunOf}
use Rattle.solo_runs.specs.Runs.{MaySearch}
use Rattle.solo_runs.proofs.SearchedRuns.{InRun}
use Rattle.solo_runs.proofs.reserving.reserve_in_run.Given as goal

-- the first so many blocks were seen taken
abbrev pub invariant-loop-index : goal.invariant-loop-index
invariant-loop-index g l = (v : View) → g.M.LaneMem.at l.fn.mem v → MaySearch v l.fn.shape → IsRunOf v l.fn.shape.lanes l.fn.class l.fn.chunk → InRun (g.M.LaneMem.at l.mem) v l.fn.shape.lanes l.fn.chunk l.found l.index
