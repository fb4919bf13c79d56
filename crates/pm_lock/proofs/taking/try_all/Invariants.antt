use Rattle.pm_lock.proofs.Lanes.{HasTried}
use Rattle.pm_lock.proofs.taking.try_all.Given as goal

-- the first so many are held
abbrev pub invariant-loop-held : goal.invariant-loop-held
invariant-loop-held g l = HasTried g.M.LaneMem.at l.locks l.fn.lane l.held-index l.lane
