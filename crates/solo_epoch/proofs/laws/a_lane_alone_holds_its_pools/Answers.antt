use Rattle.solo_crash.proofs.AloneCourse.{stands_at}
use Rattle.solo_epoch.proofs.CallPools.{holds_open_call, open_calls_held}
use Rattle.solo_epoch.proofs.laws.a_lane_alone_holds_its_pools.Goals as goal

pub returns : goal.returns
returns c = record {
  calls = λ o header pool v w steps works is_open drained. open_calls_held o header pool w (stands_at o header pool v steps w works.begins works.leads works.numbered works.within) is_open drained v works.begins;
  open_call = λ o header pool v w steps level at_stage error works is_open drained under_way borne_out.
      holds_open_call o header pool w (stands_at o header pool v steps w works.begins works.leads works.numbered works.within) is_open drained v works.begins borne_out level at_stage error under_way;
}
