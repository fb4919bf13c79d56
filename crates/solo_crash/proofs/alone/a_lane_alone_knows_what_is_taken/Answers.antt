use Rattle.solo_crash.proofs.KnownHeap.{known_alone}
use Rattle.solo_crash.proofs.alone.a_lane_alone_knows_what_is_taken.Goals as goal

pub returns : goal.returns
returns c = known_alone
