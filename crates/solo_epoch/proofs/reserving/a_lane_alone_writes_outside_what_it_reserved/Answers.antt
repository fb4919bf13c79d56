use Rattle.solo_epoch.proofs.OutsideCalls.{put_outside, puts_outside, refused_put_outside, refuses_put_outside}
use Rattle.solo_epoch.proofs.reserving.a_lane_alone_writes_outside_what_it_reserved.Goals as goal

pub returns : goal.returns
returns c = record {
  puts = λ o header pool start v w steps shape id off bytes alone. puts_outside o header pool start steps v shape alone w id off bytes;
  goes_on = λ o header pool start v w steps more shape id off bytes alone works can same. put_outside o header pool start steps v shape alone w more works can same id off bytes;
  refuses = λ o header pool start v w steps shape id off bytes r alone. refuses_put_outside o header pool start steps v shape alone w id off bytes r;
  refused = λ o header pool start v w steps more shape id off bytes r alone works can same. refused_put_outside o header pool start steps v shape alone w more works can same id off bytes r;
}
