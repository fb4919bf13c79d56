use Rattle.solo_transaction.proofs.RestsBehindEnd.{ended_pending, ended_rests, ended_stands, reserved_kept}
use Rattle.solo_transaction.proofs.resting.a_lane_alone_rests_behind_its_transaction.Goals as goal

pub returns : goal.returns
returns g c = record {
  keeps = reserved_kept;
  stands = λ v lane locks kept rests taken alone idle ended keeps. ended_stands g.M.LaneMem.at lane v locks kept rests taken alone idle ended keeps;
  pending = λ v lane locks kept ended. ended_pending g.M.LaneMem.at lane v locks kept ended;
  rests = λ o header pool v lane locks kept shape rests taken alone idle of_shape ended keeps begins. ended_rests g.M.LaneMem.at lane v locks kept rests taken alone idle ended keeps o header pool shape of_shape begins;
}
