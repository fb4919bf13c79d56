use Rattle.pm_lock.proofs.Lanes.{HasLocked}
use Rattle.pm_lock.proofs.taking.lock_all.Given as goal

-- the first so many are held
abbrev pub invariant-loop-held : goal.invariant-loop-held
invariant-loop-held g l = HasLocked g.M.LaneMem.at l.locks l.fn.lane l.held-index l.lane
