use Rattle.pm_lock.proofs.Holds.{gives_given}
use Rattle.pm_lock.proofs.laws.locks_may_be_given_back.Goals as goal

pub returns : goal.returns
returns c v locks = gives_given v locks
