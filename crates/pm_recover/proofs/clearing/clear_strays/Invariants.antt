use Rattle.pm_recover.specs.Steps.{AreCleared}
use Rattle.pm_recover.proofs.clearing.clear_strays.Given as goal

abbrev pub invariant-loop-number : goal.invariant-loop-number
invariant-loop-number l = AreCleared l.initial.image l.image l.number
