use Rattle.std.proofs.Common.{◌≡◌, ℕ, ◌++◌, length, map}
use Rattle.std.specs.Vec.{vec_capacity}
use Rattle.pm_call.specs.Histories.{nothing_told}
use Rattle.pm_calls.specs.LaneRooms.{lines_to_run}
use Rattle.pm_exec.specs.Running.{RestsWith, Rested}
use Rattle.pm_exec.proofs.LaneCalls.{CallsMade}
use Rattle.pm_exec.proofs.running.run_calls.Given as goal

-- the calls so far were answered
abbrev pub invariant-loop-room : goal.invariant-loop-room
invariant-loop-room g l = record {
  all : l.yielded ++ l.room-iterator.rest.items ≡ l.fn.calls.items;
  room : vec_capacity l.answers ≡ vec_capacity l.initial.answers;
  count : length l.answers.items ≡ length l.yielded;
  rests : Rested g.M.LaneMem.at l.lane;
  made : (n : ℕ) → RestsWith g.M.LaneMem.at l.initial.lane (nothing_told n)
      → CallsMade g.M.LaneMem.at l.lane l.names n (map lines_to_run l.yielded) l.answers.items;
}
