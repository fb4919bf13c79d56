use Rattle.pm_call.proofs.OpenedCalls.{opened_lanes_may_lock}
use Rattle.pm_call.proofs.TakenLocks.{can_lock}
use Rattle.pm_call.proofs.locking.lanes_at_work_may_lock.Goals as goal

pub returns-clause-at_work : goal.returns-clause-at_work
returns-clause-at_work c = can_lock

pub returns-clause-opened : goal.returns-clause-opened
returns-clause-opened c = opened_lanes_may_lock
