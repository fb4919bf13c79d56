use Rattle.std.proofs.Common.{◌≡◌, ◌*◌, ◌≤◌, length}
use Rattle.std.specs.List.{range_with_len, sum_by}
use Rattle.pm_image.specs.Logs.{records}
use Rattle.pm_info.proofs.counts.record_count.Given as goal

abbrev pub invariant-loop-lane : goal.invariant-loop-lane
invariant-loop-lane l = (l.count ≡ sum_by (λ lane. length (records l.image lane)) (range_with_len 0 l.lane)) × (l.count ≤ 64 * l.lane)
