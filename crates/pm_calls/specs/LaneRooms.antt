-- THE ROOM OF A LANE: its calls, each with the room that its reply needs.
use Rattle.std.specs.Prelude.{◌≡◌, ℕ, ◌<◌, List, length, map, slice_index_or}
use Rattle.pm_script.specs.declared.script.ScriptLine.{ScriptLine}
use Rattle.pm_calls.specs.Calls.{calls_of_lane, line_of}
use Rattle.pm_calls.specs.declared.lanes.LaneRoom.{LaneRoom}
use Rattle.pm_calls.specs.declared.room.CallRoom.{CallRoom}
use Rattle.pm_calls.specs.declared.room.LineRoom.{LineRoom}

-- the line that a room is for
abbrev pub said_in : LineRoom → ScriptLine
said_in room = room.said.now

-- the lines of a call that is to be made
abbrev pub lines_to_run : CallRoom → List ScriptLine
lines_to_run room = map line_of room.lines.items

-- the calls are those of the lane
abbrev pub IsRoomForLane : List ScriptLine → ℕ → LaneRoom → Type 0
IsRoomForLane script lane room = map lines_to_run room.calls.items ≡ calls_of_lane lane script

-- of lanes from 0 on
pub record AreRoomsFor (script : List ScriptLine) (lanes : ℕ) (rooms : List LaneRoom) : Type 0 where
  pub count : length rooms ≡ lanes
  pub each : (k : ℕ) (r : LaneRoom) → k < lanes → IsRoomForLane script k (slice_index_or rooms k r)
