use Rattle.pm_call.proofs.OpenedCalls.{calls_may_open, looked_calls_may_open}
use Rattle.pm_call.proofs.locking.calls_may_open.Goals as goal

pub returns-clause-first : goal.returns-clause-first
returns-clause-first c = calls_may_open

pub returns-clause-looked : goal.returns-clause-looked
returns-clause-looked c = looked_calls_may_open
