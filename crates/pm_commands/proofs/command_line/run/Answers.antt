use Rattle.std.proofs.Common.{inr}
use Rattle.std.proofs.lemmas.Result.{IfErr-weaker, IfOk-weaker}
use Rattle.pm_commands.proofs.Printing.{command_failed}
use Rattle.pm_commands.proofs.command_line.run.Goals as goal

pub returns-in-Ok-clause-did : goal.returns-in-Ok-clause-did
returns-in-Ok-clause-did g c = IfOk-weaker c.run_command.result _ _ (λ text does. (c.in-Ok.command, c.in-Ok.ensures.asked, does)) c.run_command.ensures.did

pub returns-in-Ok-clause-failed : goal.returns-in-Ok-clause-failed
returns-in-Ok-clause-failed g c = IfErr-weaker c.run_command.result _ _ (λ failure cause. command_failed _ c.in-Ok.command c.in-Ok.ensures.asked _ _ _ _ failure cause) c.run_command.ensures.failed

pub returns-in-Ok-clause-changed : goal.returns-in-Ok-clause-changed
returns-in-Ok-clause-changed g c = inr (c.in-Ok.command, c.in-Ok.ensures.asked, c.run_command.ensures.changed)
