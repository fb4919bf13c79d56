use Rattle.std.proofs.Common.{false}
use Rattle.pm_shared.specs.TestLanes.{Rests}
use Rattle.pm_lane_bench.proofs.lane.lock_round.Given as goal

-- the lock is free before each step
abbrev pub invariant-loop : goal.invariant-loop
invariant-loop g l = Rests l.lane false
