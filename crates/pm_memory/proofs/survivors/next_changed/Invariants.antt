use Rattle.pm_memory.proofs.Leasts.{IsLeast}
use Rattle.pm_memory.proofs.survivors.next_changed.Given as goal

abbrev pub invariant-loop-change : goal.invariant-loop-change
invariant-loop-change l = IsLeast l.changes l.from l.end l.change-index l.least
