use Rattle.solo_epoch.proofs.OutsideCalls.{refused_outside, refuses_outside, reservation_ends, reserves_outside, told_outside}
use Rattle.solo_epoch.proofs.reserving.a_lane_alone_reserves_outside.Goals as goal

pub returns : goal.returns
returns c = record {
  reserves = λ o header pool start v u steps shape size kind block alone makes. reserves_outside o header pool start steps v shape alone u size kind block makes;
  ends = λ o header pool start v u steps shape size kind block alone makes. reservation_ends o header pool start steps v shape alone u size kind block makes;
  goes_on = λ o header pool start v u steps shape size kind block alone makes. told_outside o header pool start steps v shape alone u size kind block makes;
  refuses = λ o header pool start v w steps shape size kind r alone. refuses_outside o header pool start steps v shape alone w size kind r;
  refused = λ o header pool start v w steps more shape size kind r alone works can same described. refused_outside o header pool start steps v shape alone w more works can same described size kind r;
}
