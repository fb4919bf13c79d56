use Rattle.pm_call.proofs.TriedLocks as tried
use Rattle.pm_call.proofs.locking.tried_locks_leave_work.Goals as goal

pub returns : goal.returns
returns c = tried.tried_locks_leave_work
