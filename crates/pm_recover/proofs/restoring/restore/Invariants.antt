use Rattle.std.proofs.Common.{◌/◌}
use Rattle.pm_recover.specs.Steps.{AreWritten}
use Rattle.pm_recover.proofs.restoring.restore.Given as goal

abbrev pub invariant-loop-k : goal.invariant-loop-k
invariant-loop-k l = AreWritten l.one.old (l.one.place / 8) l.k l.initial.image l.image
