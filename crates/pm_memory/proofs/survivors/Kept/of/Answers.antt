use Rattle.std.proofs.Common.{◌≢◌, sym, arith}
use Rattle.pm_memory.specs.Keep.{nth_number}
use Rattle.pm_memory.proofs.Choosing.{kept_after-drawn}
use Rattle.pm_memory.proofs.survivors.Kept.of.Goals as goal

pub returns-in_default : goal.returns-in_default
unfolding nth_number
returns-in_default c = let some : c.args.keep ≢ 0 = omega arith in let more : c.args.keep ≢ 1 = omega arith in sym (kept_after-drawn c.args.keep 0 some more)
