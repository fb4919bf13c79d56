use Rattle.solo_epoch.proofs.GivenInCall.{call_may_give, canceled_apart, clear_in_call, gives_in_call, goes_on_in_call, left_in_call, may_each_in_call, none_making_in_call, others_in_call, ready_in_call, same_in_call, works_in_call, working_in_call}
use Rattle.solo_epoch.proofs.giving_back.a_lane_alone_gives_back_within_a_call.Goals as goal

pub returns : goal.returns
returns c = record {
  may = λ o header pool start v steps shape level ns. call_may_give o header pool start v steps shape level ns;
  canceled = canceled_apart;
  ready = ready_in_call;
  may_each = may_each_in_call;
  works = works_in_call;
  gives = gives_in_call;
  same = same_in_call;
  left = λ o header pool start v steps shape ns at bit may. left_in_call o header pool start v steps shape ns may at bit;
  others = others_in_call;
  free = λ o header pool start v steps shape ns at bit may. clear_in_call o header pool start v steps shape ns may at bit;
  not_making = none_making_in_call;
  working = working_in_call;
  goes_on = λ o header pool start v steps shape level ns may. goes_on_in_call o header pool start v steps shape ns may level;
}
