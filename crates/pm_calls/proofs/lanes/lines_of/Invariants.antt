use Rattle.std.proofs.Common.{◌≡◌, map, take}
use Rattle.pm_script.specs.Scripts.{of_lane}
use Rattle.pm_calls.specs.Calls.{line_of}
use Rattle.pm_calls.proofs.lanes.lines_of.Given as goal

abbrev pub invariant-loop-line : goal.invariant-loop-line
invariant-loop-line l = map line_of l.lines.items ≡ of_lane l.lane (take l.line-index l.script)
