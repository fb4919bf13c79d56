use Rattle.pm_lock.proofs.RaisedLocks.{HasRaised}
use Rattle.pm_lock.specs.Wants.{wants_to_write}
use Rattle.pm_lock.proofs.raising.raise_wanted.Given as goal

-- the first so many are raised
abbrev pub invariant-loop-i : goal.invariant-loop-i
invariant-loop-i g l = HasRaised g.M.LaneMem.at (wants_to_write l.fn.lane.shape l.fn.lane.pool l.wants) l.fn.lane l.i l.lane
