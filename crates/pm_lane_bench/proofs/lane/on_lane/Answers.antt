use Rattle.pm_shared.proofs.Bare.{can_begin}
use Rattle.pm_lane_bench.proofs.lane.on_lane.Goals as goal

pub new-requires : goal.new-requires
new-requires c = can_begin c.in_ok-beginning.beginning c.in_ok-beginning.ensures.0
