use Rattle.pm_call.proofs.RangeRefusals as refusals
use Rattle.pm_call.proofs.ranges.ranges_are_looked_at.Goals as goal

pub returns : goal.returns
returns c = refusals.ranges_are_looked_at
