use Rattle.pm_call.proofs.LockedObjects.{objects_may_be_locked}
use Rattle.pm_call.proofs.locking.objects_may_be_locked.Goals as goal

pub returns : goal.returns
returns c = objects_may_be_locked
