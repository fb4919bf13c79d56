use Rattle.pm_undo.proofs.Holdings.{stays_between}
use Rattle.pm_undo.proofs.laws.lanes_stay_between_operations.Goals as goal

pub returns : goal.returns
returns g c = stays_between g.M.LaneMem.at
