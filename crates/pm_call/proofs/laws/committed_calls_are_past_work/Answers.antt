use Rattle.pm_call.proofs.CommittedLanes.{committed_are_past}
use Rattle.pm_call.proofs.laws.committed_calls_are_past_work.Goals as goal

pub returns : goal.returns
returns g c = committed_are_past g.M.LaneMem.at
