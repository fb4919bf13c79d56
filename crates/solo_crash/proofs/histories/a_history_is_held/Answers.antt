use Rattle.solo_crash.proofs.HeldHistories.{begins_held, step_stays_held}
use Rattle.solo_crash.proofs.histories.a_history_is_held.Goals as goal

pub returns-clause-begins : goal.returns-clause-begins
returns-clause-begins c = begins_held

pub returns-clause-steps : goal.returns-clause-steps
returns-clause-steps c = step_stays_held
