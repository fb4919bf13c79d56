use Rattle.pm_call.proofs.LockRefusals as refusals
use Rattle.pm_call.proofs.locking.refused_locks_give_up.Goals as goal

pub returns : goal.returns
returns c = refusals.refused_locks_give_up
