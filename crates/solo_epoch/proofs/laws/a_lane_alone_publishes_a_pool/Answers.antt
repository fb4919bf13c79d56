use Rattle.solo_epoch.proofs.PublishedImages.{all_left, nothing_left}
use Rattle.solo_epoch.proofs.PublishedPools.{blocks_left}
use Rattle.solo_epoch.proofs.laws.a_lane_alone_publishes_a_pool.Goals as goal

pub returns : goal.returns
returns c = record { nothing = nothing_left; all = all_left; blocks = blocks_left }
