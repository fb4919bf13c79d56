use Rattle.solo_crash.specs.NewObjects.{block_of_run}
use Rattle.solo_crash.proofs.ChangedPools.{shrunk_blocks, shrunk_pool, shrunk_sizes}
use Rattle.solo_crash.proofs.FreedBlocks.{run_shrinks}
use Rattle.solo_crash.proofs.blocks.a_freed_block_holds_none.Goals as goal

pub returns-clause-pool : goal.returns-clause-pool
returns-clause-pool k = λ w v lanes zones c lines index header pool holds freed.
    shrunk_pool w v lanes zones (block_of_run lanes c lines index) (run_shrinks w v lanes zones c lines index holds.no_fault freed) header pool holds freed.may.not_root

pub returns-clause-blocks : goal.returns-clause-blocks
returns-clause-blocks k = λ w v lanes zones c lines index none freed. shrunk_blocks w v lanes zones (block_of_run lanes c lines index) (run_shrinks w v lanes zones c lines index none freed)

pub returns-clause-sizes : goal.returns-clause-sizes
returns-clause-sizes k = λ w v lanes zones c lines index other none freed there. shrunk_sizes w v lanes zones (block_of_run lanes c lines index) (run_shrinks w v lanes zones c lines index none freed) other there
