use Rattle.solo_view.specs.View.{View}
use Rattle.solo_chunks.proofs.InZones.{HasNoneBefore}
use Rattle.solo_chunks.specs.Chunks.{MaySearch}
use Rattle.solo_chunks.proofs.reserving.reserve_first.Given as goal

-- the first zones were seen to have none
abbrev pub invariant-loop-zone : goal.invariant-loop-zone
invariant-loop-zone g l = (v : View) → g.M.LaneMem.at l.fn.mem v → MaySearch v l.shape → HasNoneBefore (g.M.LaneMem.at l.mem) v l.count l.zone
