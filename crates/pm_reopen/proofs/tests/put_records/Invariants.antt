use Rattle.std.proofs.Common.{◌≡◌, length}
use Rattle.pm_reopen.proofs.tests.put_records.Given as goal

abbrev pub invariant-loop-line : goal.invariant-loop-line
invariant-loop-line l = length l.image ≡ 35840
