use Rattle.solo_crash.proofs.RefusedBegin.{call_refused, level_refused}
use Rattle.solo_crash.proofs.calls.a_refused_begin_gives_up.Goals as goal

pub returns-clause-call : goal.returns-clause-call
returns-clause-call c = call_refused

pub returns-clause-level : goal.returns-clause-level
returns-clause-level c = level_refused
