use Rattle.pm_call.proofs.RangeReads as reads
use Rattle.pm_call.proofs.reading.ranges_may_be_read.Goals as goal

pub returns : goal.returns
returns c = reads.ranges_may_be_read
