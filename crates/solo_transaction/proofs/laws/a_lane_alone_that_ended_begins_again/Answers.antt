use Rattle.solo_transaction.proofs.EndingAlone.{ended_begins_again, ended_makes_none, ended_may_end, given_up_begins_again, given_up_may_end}
use Rattle.solo_transaction.proofs.laws.a_lane_alone_that_ended_begins_again.Goals as goal

pub returns : goal.returns
returns g c = record {
  may = λ o header pool v lane over behind. ended_may_end o header pool g.M.LaneMem.at lane v over behind;
  begins = λ o header pool v lane locks kept over unlocked ended. ended_begins_again o header pool g.M.LaneMem.at lane v locks kept ended over unlocked;
  left = λ v lane locks kept unlocked ended. ended_makes_none g.M.LaneMem.at lane v locks kept unlocked ended;
  may_else = λ o header pool start v steps lane works alone quiet behind. given_up_may_end o header pool g.M.LaneMem.at lane start v steps works alone quiet behind;
  begins_else = λ o header pool start v steps lane locks kept number works idle unlocked numbered ended. given_up_begins_again o header pool g.M.LaneMem.at lane v locks kept ended start steps works idle unlocked number numbered;
}
