use Rattle.solo_epoch.proofs.GivenAll.{bits_clear, bits_left, gives_ready, may_each, none_counted, none_making, one_more, reserved_apart, rests_again, same_beside}
use Rattle.solo_epoch.proofs.giving_back.a_lane_alone_gives_back_what_it_reserved.Goals as goal

pub returns : goal.returns
returns c = record {
  ready = λ o header pool start y steps shape ns may. gives_ready o header pool start y steps shape ns may;
  uncounted = none_counted;
  may_each = λ o header pool start y steps shape given rest n may. may_each o header pool start y steps shape given rest n may;
  one_more = one_more;
  rests = λ o header pool start y steps shape ns may. rests_again o header pool start y steps shape ns may;
  same = λ o header pool start y steps shape ns may. same_beside o header pool start y steps shape ns may;
  left = λ o header pool start y steps shape ns at bit may. bits_left o header pool start y steps shape ns may at bit;
  free = λ o header pool start y steps shape ns at bit may. bits_clear o header pool start y steps shape ns may at bit;
  not_making = λ o header pool start y steps shape ns may. none_making o header pool start y steps shape ns may;
  apart = reserved_apart;
}
