use Rattle.std.proofs.Common.{◌≡◌, length}
use Rattle.pm_recover.proofs.tests.pool.Given as goal

abbrev pub invariant-loop-i : goal.invariant-loop-i
invariant-loop-i l = length l.image ≡ 34816

abbrev pub invariant-loop-line : goal.invariant-loop-line
invariant-loop-line l = length l.image ≡ 34816
