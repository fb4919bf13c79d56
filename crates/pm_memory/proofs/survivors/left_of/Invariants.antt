use Rattle.pm_memory.proofs.TakingBack.{IsTakenTo}
use Rattle.pm_memory.proofs.survivors.left_of.Given as goal

abbrev pub invariant-loop-i : goal.invariant-loop-i
invariant-loop-i l = IsTakenTo l.kept l.word l.value l.changes l.i l.left l.to_take
