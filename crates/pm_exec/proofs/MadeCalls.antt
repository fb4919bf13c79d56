-- THE CALLS OF A LANE MAY BE MADE, where the script's lines rise and have words that lanes run.
use Rattle.std.proofs.Common.{◌==◌, ℕ, All, Contains, List, get_or, sym, subst, arith}
use Rattle.std.proofs.lemmas.List.Elements.{All-contains, All-filter}
use Rattle.pm_script.specs.Scripts.{AreCalls, of_lane, operations}
use Rattle.pm_script.specs.declared.script.ScriptLine.{ScriptLine}
use Rattle.pm_calls.specs.Calls.{IsWhole, LinesRise, RunsOnLanes, calls_of, calls_of_lane}
use Rattle.pm_calls.specs.LaneRooms.{AreRoomsFor}
use Rattle.pm_calls.specs.declared.lanes.LaneRoom.{LaneRoom}
use Rattle.pm_exec.specs.Made.{CallsMayBeMade, MayBeMade}

-- what is known of the calls of lines
pub record CallLaws : Type 0 where
  pub whole : (lines : List ScriptLine) → AreCalls (operations lines) → All IsWhole (calls_of lines)
  pub among : (lines : List ScriptLine) → All (All (Contains lines)) (calls_of lines)
  pub rising : (lines : List ScriptLine) → LinesRise lines → All LinesRise (calls_of lines)
  pub lanes : (lane : ℕ) (lines : List ScriptLine) → LinesRise lines → LinesRise (of_lane lane lines)

-- the lines of each call of a lane are of words that lanes run, as the script's are
pub lines_run : ((lines : List ScriptLine) → All (All (Contains lines)) (calls_of lines))
    → (script : List ScriptLine) → All RunsOnLanes script
    → (lane : ℕ) → All (All RunsOnLanes) (calls_of_lane lane script)
lines_run among script words lane k d low j e l =
    let lines : List ScriptLine = of_lane lane script in
    All-contains RunsOnLanes lines (get_or (get_or (calls_of lines) k d) j e)
    (All-filter (λ (line : ScriptLine). line.lane == lane) RunsOnLanes script words)
    (among lines k d low j e l)

module _ (laws : CallLaws) (script : List ScriptLine) (rise : LinesRise script)
    (words : All RunsOnLanes script)
    (are : (lane : ℕ) → AreCalls (operations (of_lane lane script))) where
  calls_made : (lane : ℕ) → All MayBeMade (calls_of_lane lane script)
  calls_made lane k d low =
      let lines : List ScriptLine = of_lane lane script in record {
        whole = laws.whole lines (are lane) k d low;
        words = lines_run laws.among script words lane k d low;
        rising = laws.rising lines (laws.lanes lane script rise) k d low;
      }

  pub rooms_made : (lanes : ℕ) (rooms : List LaneRoom) → AreRoomsFor script lanes rooms
      → All CallsMayBeMade rooms
  rooms_made lanes rooms for_ k r low =
      let count = for_.count in
      subst (All MayBeMade) (sym (for_.each k r (omega (arith, count, low)))) (calls_made k)
