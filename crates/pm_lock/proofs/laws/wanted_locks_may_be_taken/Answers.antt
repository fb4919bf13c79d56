use Rattle.pm_lock.proofs.Acquired.{may_lock_wanted}
use Rattle.pm_lock.proofs.laws.wanted_locks_may_be_taken.Goals as goal

pub returns : goal.returns
returns c v sh pool locks new wants can = may_lock_wanted v sh pool locks new wants can
