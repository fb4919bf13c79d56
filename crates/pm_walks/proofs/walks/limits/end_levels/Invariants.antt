use Rattle.pm_call.specs.Standing.{Stands}
use Rattle.pm_walks.proofs.walks.limits.end_levels.Given as goal

-- the lane stands
abbrev pub invariant-loop-level : goal.invariant-loop-level
invariant-loop-level g l = Stands g.M.LaneMem.at l.lane
