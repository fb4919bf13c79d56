use Rattle.solo_epoch.proofs.LocksApart.{locks_apart}
use Rattle.solo_epoch.proofs.PutDescriptors.{lies_whole, put_describes}
use Rattle.solo_epoch.proofs.reserving.what_a_lane_alone_reserved_lies_apart.Goals as goal

pub returns : goal.returns
returns c = record {
  locks = locks_apart;
  whole = λ o header pool start v steps works. lies_whole o header pool start v steps works;
  described = λ o header pool start v w steps id off bytes works. put_describes o header pool start v steps works w id off bytes;
}
