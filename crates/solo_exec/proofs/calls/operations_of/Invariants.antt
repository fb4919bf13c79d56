use Rattle.std.proofs.Common.{◌≡◌, map, take}
use Rattle.solo_exec.specs.Calls.{operation_of}
use Rattle.solo_exec.specs.Letters.{resolved}
use Rattle.solo_exec.proofs.calls.operations_of.Given as goal

abbrev pub invariant-loop-line : goal.invariant-loop-line
invariant-loop-line l = l.operations.items ≡ map (λ line. operation_of l.names line.operation) (resolved l.given (take l.line-index l.lines))
