use Rattle.pm_call.proofs.LocksGot.{busy_locks_are_tried, got_locks_are_taken, missed_locks_are_tried, refused_raises_are_tried}
use Rattle.pm_call.proofs.locking.locks_are_got.Goals as goal

pub returns-clause-got : goal.returns-clause-got
returns-clause-got g c memory = got_locks_are_taken (g.M.LaneMem.at memory)

pub returns-clause-missed : goal.returns-clause-missed
returns-clause-missed g c memory = missed_locks_are_tried (g.M.LaneMem.at memory)

pub returns-clause-busy : goal.returns-clause-busy
returns-clause-busy g c = busy_locks_are_tried

pub returns-clause-raise : goal.returns-clause-raise
returns-clause-raise g c memory = refused_raises_are_tried (g.M.LaneMem.at memory)
