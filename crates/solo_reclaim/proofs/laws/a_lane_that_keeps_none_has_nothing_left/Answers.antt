use Rattle.solo_reclaim.proofs.Pools.{nothing_left}
use Rattle.solo_reclaim.proofs.laws.a_lane_that_keeps_none_has_nothing_left.Goals as goal

pub returns : goal.returns
returns c = nothing_left
