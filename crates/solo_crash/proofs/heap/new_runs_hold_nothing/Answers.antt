use Rattle.solo_crash.proofs.EmptyRuns.{new_runs_alike}
use Rattle.solo_crash.proofs.HeldAlike.{held_alike}
use Rattle.solo_crash.proofs.heap.new_runs_hold_nothing.Goals as goal

pub returns-clause-pool : goal.returns-clause-pool
returns-clause-pool c = λ w v lanes zones header pool holds new. held_alike w v lanes zones header pool holds (new_runs_alike w v lanes zones new holds.no_fault)

pub returns-clause-blocks : goal.returns-clause-blocks
returns-clause-blocks c = λ w v lanes zones none new. (new_runs_alike w v lanes zones new none).same_blocks
