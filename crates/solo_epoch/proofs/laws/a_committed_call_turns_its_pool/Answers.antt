use Rattle.solo_crash.proofs.AloneCourse.{stands_at}
use Rattle.solo_epoch.proofs.CallPools.{holds_committed}
use Rattle.solo_epoch.proofs.laws.a_committed_call_turns_its_pool.Goals as goal

pub returns : goal.returns
returns c = λ o header pool start u steps works is_open drained committed borne_out.
    holds_committed o header pool u (stands_at o header pool start steps u works.begins works.leads works.numbered works.within) is_open drained start works.begins borne_out committed
