use Rattle.std.proofs.Common.{◌≡◌, map, take}
use Rattle.pm_calls.specs.Calls.{line_of, line_operation}
use Rattle.pm_calls.proofs.operations.operations_of.Given as goal

abbrev pub invariant-loop-line : goal.invariant-loop-line
invariant-loop-line l = l.operations.items ≡ map (line_operation l.names) (map line_of (take l.line-index l.lines))
