use Rattle.pm_lock.proofs.HeldLocks.{held_are_raised, held_before, held_grow, held_may_be_given, held_may_be_raised, held_stay}
use Rattle.pm_lock.proofs.laws.held_locks_stand.Goals as goal

pub returns-clause-grow : goal.returns-clause-grow
returns-clause-grow c v u sh pool locks new wants may h taken = held_grow v u sh pool locks new wants may h taken

pub returns-clause-stay : goal.returns-clause-stay
returns-clause-stay c v w locks stays h = held_stay v w locks stays h

pub returns-clause-may_be_raised : goal.returns-clause-may_be_raised
returns-clause-may_be_raised c v locks early h = held_may_be_raised v locks early h

pub returns-clause-are_raised : goal.returns-clause-are_raised
returns-clause-are_raised c v writes locks h = held_are_raised v writes locks h

pub returns-clause-before : goal.returns-clause-before
returns-clause-before c v sh pool locks new wants k line write may h = held_before v sh pool locks new wants k line write may h

pub returns-clause-may_be_given : goal.returns-clause-may_be_given
returns-clause-may_be_given c v locks idle h = held_may_be_given v locks idle h
