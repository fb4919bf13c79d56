use Rattle.pm_commands.proofs.LaneStops.{none_set}
use Rattle.pm_commands.proofs.lane_stops.lane_stops.Goals as goal

pub loop-lane-init : goal.loop-lane-init
loop-lane-init c = none_set c.args.stops.now c.none-all.result c.none-all.ensures
