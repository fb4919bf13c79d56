use Rattle.pm_commands.proofs.Printing.{answered_done, answered_failed}
use Rattle.pm_commands.proofs.command_line.answer.Goals as goal

pub returns-in-Ok-clause-answered : goal.returns-in-Ok-clause-answered
returns-in-Ok-clause-answered g c = answered_done _ _ _ _ _ _ _ _ _ _ _ _ c.in-Ok.ensures.did c.deref.ensures.value c.say.ensures

pub returns-in-Err-clause-answered : goal.returns-in-Err-clause-answered
returns-in-Err-clause-answered g c = answered_failed _ _ _ _ _ _ _ _ _ _ _ c.in-Err.ensures.failed c.say_failure.ensures
