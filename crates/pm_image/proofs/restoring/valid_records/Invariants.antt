use Rattle.std.proofs.Common.{◌≡◌}
use Rattle.std.specs.List.{flat_map, range_with_len}
use Rattle.pm_image.specs.Logs.{records}
use Rattle.pm_image.proofs.restoring.valid_records.Given as goal

abbrev pub invariant-loop-lane : goal.invariant-loop-lane
invariant-loop-lane l = l.found.items ≡ flat_map (records l.image) (range_with_len 0 l.lane)
