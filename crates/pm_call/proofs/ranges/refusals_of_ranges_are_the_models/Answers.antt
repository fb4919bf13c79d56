use Rattle.pm_call.proofs.RangeRefusals.{range_refusals}
use Rattle.pm_call.proofs.ranges.refusals_of_ranges_are_the_models.Goals as goal

pub returns : goal.returns
returns c = range_refusals
