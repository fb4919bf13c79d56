use Rattle.std.proofs.Common.{◌≡◌, length}
use Rattle.pm_recover.proofs.tests.put_entries.Given as goal

abbrev pub invariant-loop-place : goal.invariant-loop-place
invariant-loop-place l = length l.image ≡ 34816
