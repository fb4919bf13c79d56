use Rattle.std.proofs.Common.{◌≡◌, not, None}
use Rattle.std.specs.List.{find, range_with_len}
use Rattle.pm_image.specs.LogFaults.{good_lane}
use Rattle.pm_image.proofs.log_faults.first_bad_lane.Given as goal

abbrev pub invariant-loop-lane : goal.invariant-loop-lane
invariant-loop-lane l = find (λ lane. not (good_lane l.image lane)) (range_with_len 0 l.lane) ≡ None
