use Rattle.std.proofs.Common.{All}
use Rattle.solo_view.specs.View.{View}
use Rattle.solo_reclaim.specs.KeptBlocks.{Keeps}
use Rattle.solo_reclaim.specs.Reclaims.{MayReclaim}
use Rattle.solo_reclaim.proofs.Pools.{IsInPool}
use Rattle.solo_reclaim.proofs.reclaiming.reclaim.Given as goal

-- the words of the first so many zones have of the lane what it keeps
abbrev pub invariant-loop-zone : goal.invariant-loop-zone
invariant-loop-zone g l = (v : View) → g.M.LaneMem.at l.fn.mem v → MayReclaim v l.shape → All (Keeps v) l.kept → IsInPool l.kept (g.M.LaneMem.at l.mem) v l.zone
