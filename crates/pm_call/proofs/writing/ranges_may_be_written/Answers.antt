use Rattle.pm_call.proofs.RangeWrites.{ranges_may_be_written}
use Rattle.pm_call.proofs.writing.ranges_may_be_written.Goals as goal

pub returns : goal.returns
returns c = ranges_may_be_written
