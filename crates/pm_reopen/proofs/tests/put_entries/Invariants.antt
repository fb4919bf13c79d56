use Rattle.std.proofs.Common.{◌≡◌, length}
use Rattle.pm_reopen.proofs.tests.put_entries.Given as goal

abbrev pub invariant-loop-lane : goal.invariant-loop-lane
invariant-loop-lane l = length l.image ≡ 35840
