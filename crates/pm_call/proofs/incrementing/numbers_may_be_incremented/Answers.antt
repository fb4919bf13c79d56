use Rattle.pm_call.proofs.Increments as increments
use Rattle.pm_call.proofs.incrementing.numbers_may_be_incremented.Goals as goal

pub returns : goal.returns
returns c = increments.numbers_may_be_incremented
