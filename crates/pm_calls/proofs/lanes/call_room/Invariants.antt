use Rattle.std.proofs.Common.{◌≡◌, map, take}
use Rattle.pm_calls.specs.Calls.{line_of}
use Rattle.pm_calls.specs.declared.room.LineRoom.{LineRoom}
use Rattle.pm_calls.proofs.lanes.call_room.Given as goal

abbrev pub invariant-loop-said : goal.invariant-loop-said
invariant-loop-said l = map (λ (room : LineRoom). room.said.now) l.rooms.items ≡ map line_of (take l.said-index l.lines)
