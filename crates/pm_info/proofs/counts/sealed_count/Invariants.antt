use Rattle.std.proofs.Common.{◌≡◌, ◌≤◌}
use Rattle.std.specs.List.{count_by, range_with_len}
use Rattle.pm_image.specs.Logs.{is_sealed}
use Rattle.pm_info.proofs.counts.sealed_count.Given as goal

abbrev pub invariant-loop-lane : goal.invariant-loop-lane
invariant-loop-lane l = (l.count ≡ count_by (is_sealed l.image) (range_with_len 0 l.lane)) × (l.count ≤ l.lane)
