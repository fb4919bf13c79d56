use Rattle.std.proofs.Common.{◌≡◌, ◌++◌}
use Rattle.std.specs.List.{flat_map, range_with_len}
use Rattle.pm_image.proofs.Gathering.{record_at}
use Rattle.pm_image.proofs.restoring.push_records.Given as goal

abbrev pub invariant-loop-i : goal.invariant-loop-i
invariant-loop-i l = l.found.items ≡ l.initial.found.items ++ flat_map (record_at l.image l.lane) (range_with_len 0 l.i)
