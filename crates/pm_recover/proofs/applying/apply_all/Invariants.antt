use Rattle.std.proofs.Common.{take}
use Rattle.pm_recover.specs.Steps.{AreApplied}
use Rattle.pm_recover.proofs.applying.apply_all.Given as goal

abbrev pub invariant-loop-one : goal.invariant-loop-one
invariant-loop-one l = AreApplied (take l.one-index l.entries) l.lanes l.initial.image l.image
