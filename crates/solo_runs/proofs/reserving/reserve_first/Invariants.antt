use Rattle.solo_view.specs.View.{View}
use Rattle.solo_runs.specs.Runs.{MaySearch}
use Rattle.solo_runs.proofs.SearchedPools.{InPool}
use Rattle.solo_runs.proofs.reserving.reserve_first.Given as goal

-- of the first so many chunks none has a block
abbrev pub invariant-loop-chunk : goal.invariant-loop-chunk
invariant-loop-chunk g l = (v : View) → g.M.LaneMem.at l.fn.mem v → MaySearch v l.shape → InPool (g.M.LaneMem.at l.mem) v l.shape.lanes l.class l.chunk
