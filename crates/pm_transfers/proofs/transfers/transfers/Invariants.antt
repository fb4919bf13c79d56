use Rattle.pm_call.specs.Standing.{Stands}
use Rattle.pm_transfers.proofs.transfers.transfers.Given as goal

-- the lane stands before each transfer
abbrev pub invariant-loop : goal.invariant-loop
invariant-loop g l = Stands g.M.LaneMem.at l.lane
