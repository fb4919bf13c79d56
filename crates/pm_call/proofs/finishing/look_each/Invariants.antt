use Rattle.std.proofs.Common.{◌≡◌}
use Rattle.pm_world.specs.LaneFields.{Standing, at_work}
use Rattle.pm_call.specs.At.{At}
use Rattle.pm_call.specs.Did.{After}
use Rattle.pm_call.proofs.EntryLooks.{SeenFirst}
use Rattle.pm_call.proofs.finishing.look_each.Given as goal

-- the words of the first so many were looked at
abbrev pub invariant-loop-entry : goal.invariant-loop-entry
invariant-loop-entry g l =
    (s : Standing) → g.M.LaneMem.at l.fn.mem s.view → At s → s.entries ≡ l.entries → After s (SeenFirst (g.M.LaneMem.at l.mem) (at_work s) l.entry-index)
