use Rattle.pm_calls.proofs.FirstCall.{IsSoFar}
use Rattle.pm_calls.proofs.lanes.first_call.Given as goal

abbrev pub invariant-loop-k : goal.invariant-loop-k
invariant-loop-k l = IsSoFar l.lines l.k l.level
