use Rattle.solo_world.proofs.Settling.{HasFlushed}
use Rattle.solo_world.proofs.sequences.flush_all.Given as goal

-- each round flushes one line
abbrev pub invariant-loop : goal.invariant-loop
invariant-loop g l = HasFlushed (g.M.LaneMem.at l.fn.mem) (g.M.LaneMem.at l.mem) l.counter
