use Rattle.pm_call.specs.Standing.{Stands}
use Rattle.pm_transfers.proofs.counters.read_counters.Given as goal

-- the lane stands before each read
abbrev pub invariant-loop-counter : goal.invariant-loop-counter
invariant-loop-counter g l = Stands g.M.LaneMem.at l.lane
