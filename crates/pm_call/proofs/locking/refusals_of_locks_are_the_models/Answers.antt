use Rattle.pm_call.proofs.LockRefusals.{lock_refusals}
use Rattle.pm_call.proofs.locking.refusals_of_locks_are_the_models.Goals as goal

pub returns : goal.returns
returns c = lock_refusals
