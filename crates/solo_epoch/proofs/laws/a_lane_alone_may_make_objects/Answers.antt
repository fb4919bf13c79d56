use Rattle.solo_epoch.proofs.ReadyLanes.{may_make}
use Rattle.solo_epoch.proofs.laws.a_lane_alone_may_make_objects.Goals as goal

pub returns : goal.returns
returns c = λ o mem views log decided k shape world inside sees pictures work. may_make o mem views log decided k world inside sees pictures shape work
