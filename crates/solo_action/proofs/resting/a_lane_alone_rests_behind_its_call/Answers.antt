use Rattle.solo_action.proofs.RestedAlone.{rests_behind}
use Rattle.solo_action.proofs.resting.a_lane_alone_rests_behind_its_call.Goals as goal

pub returns : goal.returns
returns g c = record { told = λ o header pool start v steps lane new op reply r rested was leaves own. rests_behind g.M.LaneMem.at o header pool start v steps lane new op reply r rested was leaves own }
