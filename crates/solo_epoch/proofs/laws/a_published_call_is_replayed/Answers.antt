use Rattle.solo_crash.proofs.AloneCourse.{stands_at}
use Rattle.solo_epoch.proofs.ReplayedCalls.{replays_with_call}
use Rattle.solo_epoch.proofs.StandingPools.{own_fits}
use Rattle.solo_epoch.proofs.laws.a_published_call_is_replayed.Goals as goal

pub returns : goal.returns
returns c = λ o header pool start u steps n last works held turns.
    replays_with_call u n (own_fits o header pool u (stands_at o header pool start steps u works.begins works.leads works.numbered works.within)).lane.lane pool held.before last held.replays turns
