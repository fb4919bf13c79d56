use Rattle.pm_call.proofs.TakenLocks.{locks_may_be_wanted}
use Rattle.pm_call.proofs.locking.locks_may_be_wanted.Goals as goal

pub returns : goal.returns
returns c = locks_may_be_wanted
