use Rattle.std.proofs.Common.{false}
use Rattle.pm_shared.specs.TestLanes.{Rests}
use Rattle.pm_lane_bench.proofs.lane.locks.Given as goal

-- the lock is free between the rounds
abbrev pub invariant-loop : goal.invariant-loop
invariant-loop g l = Rests l.lane false
