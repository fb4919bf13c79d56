use Rattle.pm_redo.proofs.Performed.{perform_lawful}
use Rattle.pm_redo.proofs.laws.logs_may_be_performed.Goals as goal

pub returns : goal.returns
returns c v found can = perform_lawful v found can
