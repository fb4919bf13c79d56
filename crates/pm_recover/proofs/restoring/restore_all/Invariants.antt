use Rattle.std.proofs.Common.{◌-◌}
use Rattle.std.specs.List.{flat_map, range_with_len}
use Rattle.pm_image.specs.Logs.{records}
use Rattle.pm_recover.specs.Steps.{AreRestored}
use Rattle.pm_recover.proofs.restoring.restore_all.Given as goal

abbrev pub invariant-loop-lane : goal.invariant-loop-lane
invariant-loop-lane l = AreRestored (flat_map (records l.initial.image) (range_with_len l.lane (l.lanes - l.lane))) l.initial.image l.image
