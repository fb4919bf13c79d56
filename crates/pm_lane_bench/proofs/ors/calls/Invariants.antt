use Rattle.pm_lane_bench.specs.Calls.{AwaitsCall, LaneHas}
use Rattle.pm_lane_bench.proofs.ors.calls.Given as goal

-- no call is open between them
abbrev pub invariant-loop : goal.invariant-loop
invariant-loop g l = LaneHas g.M.LaneMem.at AwaitsCall l.lane
