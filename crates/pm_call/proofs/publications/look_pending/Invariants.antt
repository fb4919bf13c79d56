use Rattle.pm_world.specs.LaneFields.{Rests, Standing}
use Rattle.pm_call.specs.Did.{After}
use Rattle.pm_call.specs.Publications.{HoldsWords}
use Rattle.pm_call.proofs.LookedWords.{LookedFirst}
use Rattle.pm_call.proofs.publications.look_pending.Given as goal

-- the first so many came to this
abbrev pub invariant-loop-i : goal.invariant-loop-i
invariant-loop-i g l = (s : Standing) → Rests g.M.LaneMem.at l.fn.lane s → HoldsWords s
    → After s (LookedFirst g.M.LaneMem.at l.lane l.i l.inside)
