use Rattle.solo_epoch.proofs.TakenBehindLog.{knows_behind}
use Rattle.solo_epoch.proofs.laws.a_lane_knows_what_is_taken_behind_its_log.Goals as goal

pub returns : goal.returns
returns c = knows_behind
