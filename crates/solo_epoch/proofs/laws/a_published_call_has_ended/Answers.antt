use Rattle.std.proofs.Common.{subst}
use Rattle.solo_epoch.proofs.GainedObjects.{stood}
use Rattle.solo_epoch.proofs.PublishedCalls.{has_ended}
use Rattle.solo_epoch.proofs.StandingPools.{own_fits}
use Rattle.solo_epoch.specs.Epochs.{ReservesNoRun}
use Rattle.solo_epoch.proofs.laws.a_published_call_has_ended.Goals as goal

pub returns : goal.returns
returns c o header pool u n all w published =
    let call = published.publishing in
    let lanes = (own_fits o header pool u (stood o header pool call.start u call.steps call.works)).lane.lanes in
    has_ended o header pool u n all w call (subst (λ m. ReservesNoRun m u) lanes published.no_run) published.loads published.over published.within
