use Rattle.std.proofs.Common.{false}
use Rattle.pm_shared.specs.TestLanes.{Rests}
use Rattle.pm_shared.proofs.tests.work.Given as goal

-- the lock is free before each addition
abbrev pub invariant-loop : goal.invariant-loop
invariant-loop g l = Rests l.lane false
