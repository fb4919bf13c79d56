use Rattle.pm_commands.proofs.LaneStops.{AreSet}
use Rattle.pm_commands.proofs.lane_stops.lane_stops.Given as goal

abbrev pub invariant-loop-lane : goal.invariant-loop-lane
invariant-loop-lane l = AreSet l.stops l.all l.lane
