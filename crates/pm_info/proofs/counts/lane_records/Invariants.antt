use Rattle.std.proofs.Common.{◌≡◌, ◌≤◌, length}
use Rattle.std.specs.List.{flat_map, range_with_len}
use Rattle.pm_image.proofs.Gathering.{record_at}
use Rattle.pm_info.proofs.counts.lane_records.Given as goal

abbrev pub invariant-loop-slot : goal.invariant-loop-slot
invariant-loop-slot l = (l.count ≡ length (flat_map (record_at l.image l.lane) (range_with_len 0 l.slot))) × (l.count ≤ l.slot)
