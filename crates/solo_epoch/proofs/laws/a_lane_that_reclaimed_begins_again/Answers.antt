use Rattle.solo_epoch.proofs.ReclaimingLanes.{begins_reclaimed, ended_may, ended_reclaimed}
use Rattle.solo_epoch.proofs.laws.a_lane_that_reclaimed_begins_again.Goals as goal

pub returns : goal.returns
returns c = record { may = ended_may; ended = ended_reclaimed; begins = begins_reclaimed }
