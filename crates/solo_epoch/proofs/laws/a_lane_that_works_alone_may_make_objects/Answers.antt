use Rattle.solo_epoch.proofs.MakingAlone.{makes_alone}
use Rattle.solo_epoch.proofs.laws.a_lane_that_works_alone_may_make_objects.Goals as goal

pub returns : goal.returns
returns c = makes_alone
