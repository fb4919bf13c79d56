use Rattle.pm_world.specs.LaneFields.{Standing, Works}
use Rattle.pm_call.specs.At.{At}
use Rattle.pm_call.specs.Did.{After}
use Rattle.pm_tx.proofs.CheckedWords.{CheckedFirst}
use Rattle.pm_tx.proofs.publishing.check_actions.Given as goal

-- the first so many came to this
abbrev pub invariant-loop-i : goal.invariant-loop-i
invariant-loop-i g l = (s : Standing) → Works g.M.LaneMem.at l.fn.lane s → At s
    → After s (CheckedFirst g.M.LaneMem.at l.lane l.i l.checked)
