use Rattle.pm_lane_bench.specs.Lanes.{Fills}
use Rattle.pm_lane_bench.proofs.lane.stores.Given as goal

-- nothing is undrained between the rounds
abbrev pub invariant-loop : goal.invariant-loop
invariant-loop g l = Fills l.lane 0
