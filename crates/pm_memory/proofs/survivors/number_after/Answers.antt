use Rattle.std.proofs.Common.{arith}
use Rattle.pm_memory.specs.Keep.{next_number}
use Rattle.pm_memory.proofs.survivors.number_after.Goals as goal

pub returns : goal.returns
unfolding next_number
returns c = omega arith
