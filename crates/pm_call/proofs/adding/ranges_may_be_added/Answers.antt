use Rattle.pm_call.proofs.AddedRanges as added
use Rattle.pm_call.proofs.adding.ranges_may_be_added.Goals as goal

pub returns : goal.returns
returns c = added.ranges_may_be_added
