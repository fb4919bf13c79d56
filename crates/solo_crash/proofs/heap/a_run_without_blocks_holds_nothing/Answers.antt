use Rattle.std.proofs.Common.{◌+◌, ◌*◌}
use Rattle.solo_crash.proofs.EmptyRuns.{run_freed, run_made_in_zone}
use Rattle.solo_crash.proofs.HeldAlike.{held_alike}
use Rattle.solo_crash.proofs.heap.a_run_without_blocks_holds_nothing.Goals as goal

pub returns-clause-made : goal.returns-clause-made
returns-clause-made c = λ w v lanes zones zone chunk header pool holds free inside low makes.
    held_alike w v lanes zones header pool holds (run_made_in_zone w v lanes zones zone chunk holds.no_fault free inside low makes)

pub returns-clause-made_blocks : goal.returns-clause-made_blocks
returns-clause-made_blocks c = λ w v lanes zones zone chunk none free inside low makes. (run_made_in_zone w v lanes zones zone chunk none free inside low makes).same_blocks

pub returns-clause-freed : goal.returns-clause-freed
returns-clause-freed c = λ w v lanes zones zone chunk header pool holds makes free.
    held_alike v w lanes zones header pool holds (run_freed w v lanes zones (64 * zone + chunk) makes holds.no_fault free)

pub returns-clause-freed_blocks : goal.returns-clause-freed_blocks
returns-clause-freed_blocks c = λ w v lanes zones zone chunk none makes free. (run_freed w v lanes zones (64 * zone + chunk) makes none free).same_blocks
