use Rattle.std.proofs.Common.{take}
use Rattle.pm_image.specs.Steps.{AreAsLogged}
use Rattle.pm_image.proofs.restoring.restore_entries.Given as goal

abbrev pub invariant-loop-one : goal.invariant-loop-one
invariant-loop-one l = AreAsLogged (take l.one-index l.logs.entries.items) l.logs.records.items l.logs.entries.items l.logs.records.items l.image l.words
