use Rattle.pm_commands.proofs.NewNames.{adds_part}
use Rattle.pm_commands.proofs.check_command.put_mended.Goals as goal

pub returns-clause-part : goal.returns-clause-part
returns-clause-part g c = adds_part _ _ _ _ c.in_ok-put.ensures.added
