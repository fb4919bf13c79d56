use Rattle.std.proofs.Common.{false}
use Rattle.pm_shared.specs.TestLanes.{Rests}
use Rattle.pm_shared.proofs.tests.lock.Given as goal

-- the lock is not got yet
abbrev pub invariant-loop : goal.invariant-loop
invariant-loop g l = (goal.iterator-loop g).can_next l.iterator' × (goal.iterator-loop g).is_finite l.iterator' × Rests l.lane false
