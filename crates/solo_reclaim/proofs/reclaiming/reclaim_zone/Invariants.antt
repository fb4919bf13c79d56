use Rattle.solo_view.specs.View.{View}
use Rattle.solo_reclaim.specs.Reclaims.{MayKeep}
use Rattle.solo_reclaim.proofs.ZoneWords.{IsInZone}
use Rattle.solo_reclaim.proofs.reclaiming.reclaim_zone.Given as goal

-- the first so many chunks have of the lane what it keeps, where they are runs
abbrev pub invariant-loop-chunk : goal.invariant-loop-chunk
invariant-loop-chunk g l = (v : View) → g.M.LaneMem.at l.fn.mem v → MayKeep v l.shape l.kept → IsInZone l.kept (g.M.LaneMem.at l.mem) v l.zone l.chunk l.taken
