use Rattle.solo_lock.proofs.TakenAll.{IsTaking}
use Rattle.solo_lock.proofs.locking.take_all.Given as goal

-- the first so many are taken
abbrev pub invariant-loop-held : goal.invariant-loop-held
invariant-loop-held g l = IsTaking g.M.LaneMem.at l.fn.lane l.lane l.plan l.held-index
