use Rattle.solo_crash.proofs.AloneCourse.{stands_at}
use Rattle.solo_epoch.proofs.EnteredCalls.{has_entries}
use Rattle.solo_epoch.proofs.laws.a_committed_call_may_publish_what_it_entered.Goals as goal

pub returns : goal.returns
returns c = λ o header pool start u steps all works committed borne_out held entered.
    has_entries o header pool u (stands_at o header pool start steps u works.begins works.leads works.numbered works.within) held committed.has borne_out all entered
