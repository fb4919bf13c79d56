use Rattle.pm_lanes.proofs.BusyCalls.{have_causes}
use Rattle.pm_lanes.proofs.laws.busy_calls_have_causes.Goals as goal

pub returns : goal.returns
returns c = have_causes
