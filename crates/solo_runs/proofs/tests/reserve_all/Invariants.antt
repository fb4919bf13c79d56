use Rattle.solo_runs.specs.Tests.{HoldsAll}
use Rattle.solo_runs.proofs.tests.reserve_all.Given as goal

-- the blocks so far are the lane's
abbrev pub invariant-loop : goal.invariant-loop
invariant-loop l = HoldsAll l.lane.memory l.lane.shape l.class l.blocks.items
