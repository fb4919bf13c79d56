use Rattle.pm_redo.proofs.LogWritten.{log_lawful}
use Rattle.pm_redo.proofs.laws.logs_may_be_written.Goals as goal

pub returns : goal.returns
returns c v entries can = log_lawful v entries can
