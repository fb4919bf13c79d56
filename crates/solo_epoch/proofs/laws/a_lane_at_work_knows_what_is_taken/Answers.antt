use Rattle.std.proofs.Common.{subst}
use Rattle.solo_epoch.proofs.GainedObjects.{stood}
use Rattle.solo_epoch.proofs.KnowingLanes.{knows_at_work, none_freed}
use Rattle.solo_epoch.proofs.StandingPools.{own_fits}
use Rattle.solo_epoch.specs.Epochs.{ReservesNoRun}
use Rattle.solo_epoch.proofs.laws.a_lane_at_work_knows_what_is_taken.Goals as goal

pub returns : goal.returns
returns c = record {
  freed = none_freed;
  taken = λ o header pool v w steps works no_run.
      knows_at_work o header pool v w steps works (subst (λ m. ReservesNoRun m w) (own_fits o header pool w (stood o header pool v w steps works)).lane.lanes no_run);
}
