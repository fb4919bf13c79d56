use Rattle.solo_epoch.proofs.PublishingHeap.{same_along}
use Rattle.solo_epoch.proofs.laws.publishing_keeps_what_a_lane_has.Goals as goal

pub returns : goal.returns
returns c = λ b w steps alone publishes. same_along b steps w alone publishes
