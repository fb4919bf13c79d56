use Rattle.pm_lanes.proofs.CountedCalls.{listed}
use Rattle.pm_lanes.proofs.laws.calls_are_listed.Goals as goal

pub returns : goal.returns
returns c = listed
