use Rattle.solo_epoch.proofs.RestingLanes.{begins_again}
use Rattle.solo_epoch.proofs.laws.a_lane_at_rest_may_begin_again.Goals as goal

pub returns : goal.returns
returns c = λ o header pool v w steps works rests. begins_again o header pool v w steps works rests
