use Rattle.solo_crash.specs.NewObjects.{block_of_chunks}
use Rattle.solo_crash.proofs.ChangedPools.{shrunk_blocks, shrunk_pool, shrunk_sizes}
use Rattle.solo_crash.proofs.FreedBlocks.{chunks_shrink}
use Rattle.solo_crash.proofs.blocks.freed_chunks_hold_none.Goals as goal

pub returns-clause-pool : goal.returns-clause-pool
returns-clause-pool k = λ w v lanes zones c chunks header pool holds freed.
    shrunk_pool w v lanes zones (block_of_chunks lanes c chunks) (chunks_shrink w v lanes zones c chunks holds.no_fault freed) header pool holds freed.may.not_root

pub returns-clause-blocks : goal.returns-clause-blocks
returns-clause-blocks k = λ w v lanes zones c chunks none freed. shrunk_blocks w v lanes zones (block_of_chunks lanes c chunks) (chunks_shrink w v lanes zones c chunks none freed)

pub returns-clause-sizes : goal.returns-clause-sizes
returns-clause-sizes k = λ w v lanes zones c chunks other none freed there. shrunk_sizes w v lanes zones (block_of_chunks lanes c chunks) (chunks_shrink w v lanes zones c chunks none freed) other there
