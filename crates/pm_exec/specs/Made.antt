-- A CALL THAT MAY BE MADE on a lane.
use Rattle.std.specs.Prelude.{◌≡◌, ◌≤◌, All, List, [], length, map, Option, None, Some, Vec, vec_capacity}
use Rattle.std.specs.Global.{Global}
use Rattle.std.specs.List.Sorted.{IsStrictlyIncreasing}
use Rattle.pm_script.specs.declared.script.ScriptLine.{ScriptLine}
use Rattle.pm_calls.specs.Calls.{IsWhole, RunsOnLanes, numbers_of}
use Rattle.pm_calls.specs.LaneRooms.{lines_to_run}
use Rattle.pm_calls.specs.declared.lanes.LaneRoom.{LaneRoom}
use Rattle.pm_calls.specs.declared.room.CallRoom.{CallRoom}
use Rattle.pm_exec.specs.declared.answer.Answer.{Answer}

-- its lines are one call, in words that lanes run, in rising lines
pub record MayBeMade (lines : List ScriptLine) : Type 0 where
  pub whole : IsWhole lines
  pub words : All RunsOnLanes lines
  pub rising : IsStrictlyIncreasing (numbers_of lines)

-- so may all that a lane has room for
abbrev pub CallsMayBeMade : LaneRoom → Type 0
CallsMayBeMade room = All MayBeMade (map lines_to_run room.calls.items)

-- the calls that are to be made may be, and there is room for their answers
abbrev pub AreToBeMade : Option (Vec CallRoom Global) → Vec Answer Global → Type 0
AreToBeMade None answers = Unit {0}
AreToBeMade (Some calls) answers = (answers.items ≡ []) × (length calls.items ≤ vec_capacity answers)
    × All MayBeMade (map lines_to_run calls.items)
