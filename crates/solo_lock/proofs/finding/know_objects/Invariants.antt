use Rattle.solo_view.specs.View.{View}
use Rattle.solo_lock.specs.Finding.{IsHeldBy}
use Rattle.solo_lock.proofs.KnownObjects.{KnowsFirst}
use Rattle.solo_lock.proofs.finding.know_objects.Given as goal

-- the objects under the first so many locks are known
abbrev pub invariant-loop-held : goal.invariant-loop-held
invariant-loop-held g l = (v : View) → g.M.LaneMem.at l.fn.mem v → IsHeldBy v l.locks → KnowsFirst (g.M.LaneMem.at l.mem) v l.locks l.held-index
