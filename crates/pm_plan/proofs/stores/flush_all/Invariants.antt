use Rattle.pm_plan.proofs.Persisting.{HasFlushed}
use Rattle.pm_plan.proofs.stores.flush_all.Given as goal

-- each round flushes one line
abbrev pub invariant-loop : goal.invariant-loop
invariant-loop g l = HasFlushed (g.M.LaneMem.at l.fn.mem) (g.M.LaneMem.at l.mem) l.counter
