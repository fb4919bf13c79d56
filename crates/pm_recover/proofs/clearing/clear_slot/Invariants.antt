use Rattle.pm_recover.proofs.Strays.{AreZeroed}
use Rattle.pm_recover.proofs.clearing.clear_slot.Given as goal

abbrev pub invariant-loop-k : goal.invariant-loop-k
invariant-loop-k l = AreZeroed l.first l.k l.initial.image l.image
