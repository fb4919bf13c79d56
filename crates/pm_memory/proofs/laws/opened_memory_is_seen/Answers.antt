use Rattle.pm_memory.proofs.Opening.{sees_opened, sees_opened_with}
use Rattle.pm_memory.proofs.laws.opened_memory_is_seen.Goals as goal

pub returns-clause-given : goal.returns-clause-given
returns-clause-given c = sees_opened_with

pub returns-clause-clear : goal.returns-clause-clear
returns-clause-clear c = sees_opened
