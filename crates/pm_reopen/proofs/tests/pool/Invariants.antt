use Rattle.std.proofs.Common.{◌≡◌, length}
use Rattle.pm_reopen.proofs.tests.pool.Given as goal

abbrev pub invariant-loop-i : goal.invariant-loop-i
invariant-loop-i l = length l.image ≡ 35840
