use Rattle.pm_lock.proofs.Holds.{taken_holds, tries_taken, waits_taken}
use Rattle.pm_lock.proofs.laws.locks_are_held_once_taken.Goals as goal

pub returns-clause-waited : goal.returns-clause-waited
returns-clause-waited c v locks steps are = waits_taken v locks steps are

pub returns-clause-tried : goal.returns-clause-tried
returns-clause-tried c v locks = tries_taken v locks

pub returns-clause-held : goal.returns-clause-held
returns-clause-held c v w locks is = taken_holds v w locks is
