use Rattle.std.proofs.Common.{◌-◌}
use Rattle.std.specs.List.{flat_map, range_with_len}
use Rattle.pm_image.proofs.Gathering.{record_at}
use Rattle.pm_recover.specs.Steps.{AreRestored}
use Rattle.pm_recover.proofs.restoring.restore_lane.Given as goal

abbrev pub invariant-loop-slot : goal.invariant-loop-slot
invariant-loop-slot l = AreRestored (flat_map (record_at l.initial.image l.lane) (range_with_len l.slot (64 - l.slot))) l.initial.image l.image
