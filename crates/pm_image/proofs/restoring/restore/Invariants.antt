use Rattle.pm_image.specs.Steps.{AreRestored}
use Rattle.pm_image.proofs.restoring.restore.Given as goal

abbrev pub invariant-loop-i : goal.invariant-loop-i
invariant-loop-i l = AreRestored l.logs.entries.items l.logs.records.items l.image l.initial.words l.words l.from l.i
