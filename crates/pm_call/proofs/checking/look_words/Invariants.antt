use Rattle.std.proofs.Common.{Bool}
use Rattle.pm_world.specs.LaneFields.{Standing, Works}
use Rattle.pm_call.specs.At.{At}
use Rattle.pm_call.specs.Did.{After}
use Rattle.pm_call.specs.Ranges.{HasRange}
use Rattle.pm_call.proofs.RangeLooks.{HasSeenFirst}
use Rattle.pm_call.proofs.checking.look_words.Given as goal

-- the first so many words were looked at
abbrev pub invariant-loop-i : goal.invariant-loop-i
invariant-loop-i g l =
    (write : Bool) (s : Standing) → Works g.M.LaneMem.at l.fn.lane s → At s → HasRange s l.fn.id l.off l.len write → After s (HasSeenFirst g.M.LaneMem.at l.lane l.fn.id l.off l.len write l.i)
