use Rattle.pm_calls.specs.LaneRooms.{AreRoomsFor}
use Rattle.pm_calls.proofs.lanes.lane_rooms.Given as goal

abbrev pub invariant-loop-lane : goal.invariant-loop-lane
invariant-loop-lane l = AreRoomsFor l.script l.lane l.rooms.items
