use Rattle.pm_lock.proofs.RaisedClaims.{are_raised}
use Rattle.pm_lock.proofs.laws.raised_locks_are_held.Goals as goal

pub returns : goal.returns
returns c v writes locks = are_raised writes v locks
