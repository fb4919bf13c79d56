use Rattle.std.proofs.Common.{◌≡◌, ◌≤◌, ◌++◌, length, map}
use Rattle.std.specs.Vec.{vec_capacity}
use Rattle.pm_call.specs.Histories.{LaneHistory}
use Rattle.pm_calls.specs.LaneRooms.{said_in}
use Rattle.pm_exec.specs.Running.{RestsWith, WentOn}
use Rattle.pm_exec.proofs.running.run_lines.Given as goal

-- the lines so far went on
abbrev pub invariant-loop-room : goal.invariant-loop-room
invariant-loop-room g l = record {
  all : l.yielded ++ l.room-iterator.rest.items ≡ l.fn.rooms.items;
  room : vec_capacity l.values ≡ vec_capacity l.initial.values;
  count : length l.values.items ≤ length l.yielded;
  went : (h : LaneHistory) → RestsWith g.M.LaneMem.at l.initial.lane h → WentOn g.M.LaneMem.at l.lane l.names h
      (map said_in l.yielded) (map said_in l.room-iterator.rest.items) l.values.items;
}
