use Rattle.solo_crash.proofs.AloneCourse.{stands_at}
use Rattle.solo_epoch.proofs.CallPools.{may_precede_call}
use Rattle.solo_epoch.proofs.laws.a_pool_may_precede_a_call_borne_out.Goals as goal

pub returns : goal.returns
returns c = λ o header pool start v steps works is_open drained held borne_out.
    may_precede_call o header pool v (stands_at o header pool start steps v works.begins works.leads works.numbered works.within) is_open drained held borne_out
