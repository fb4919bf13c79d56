use Rattle.solo_epoch.proofs.HeldBehindLog.{holds_behind}
use Rattle.solo_epoch.proofs.laws.a_lane_holds_what_it_knows_behind_its_log.Goals as goal

pub returns : goal.returns
returns c = λ o header pool before made start u w steps log_steps n i all works draws may publishes loads there. holds_behind o header pool before made start u steps n all works draws may w log_steps i publishes loads there
