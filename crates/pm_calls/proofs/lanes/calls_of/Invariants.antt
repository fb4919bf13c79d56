use Rattle.std.proofs.Common.{length, ◌-◌, ◌≡◌, ◌≤◌, ◌++◌, map, drop}
use Rattle.pm_calls.specs.Calls.{calls_of, line_of}
use Rattle.pm_calls.specs.LaneRooms.{lines_to_run}
use Rattle.pm_calls.proofs.lanes.calls_of.Given as goal

abbrev pub invariant-loop-start : goal.invariant-loop-start
invariant-loop-start l = (l.start ≤ length l.lines) × (map lines_to_run l.calls.items ++ calls_of (map line_of (drop l.start l.lines)) ≡ calls_of (map line_of l.lines))

abbrev pub decreases-loop-start : goal.decreases-loop-start
decreases-loop-start l = length l.lines - l.start
