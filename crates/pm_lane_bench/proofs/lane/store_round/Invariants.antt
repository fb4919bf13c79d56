use Rattle.pm_lane_bench.specs.Lanes.{Fills}
use Rattle.pm_lane_bench.proofs.lane.store_round.Given as goal

-- each store so far left a change
abbrev pub invariant-loop-value : goal.invariant-loop-value
invariant-loop-value g l = Fills l.lane l.value
