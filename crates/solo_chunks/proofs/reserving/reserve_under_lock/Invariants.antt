use Rattle.solo_view.specs.View.{View}
use Rattle.solo_chunks.proofs.Tried.{HasTried}
use Rattle.solo_chunks.specs.Looking.{HoldsZone}
use Rattle.solo_chunks.proofs.reserving.reserve_under_lock.Given as goal

-- from each of the first places on they were tried
abbrev pub invariant-loop-first : goal.invariant-loop-first
invariant-loop-first g l = (v : View) → g.M.LaneMem.at l.fn.mem v → HoldsZone v l.zone → HasTried (g.M.LaneMem.at l.mem) v l.zone l.count l.found l.first
