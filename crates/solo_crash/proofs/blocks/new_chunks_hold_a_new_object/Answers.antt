use Rattle.solo_crash.specs.NewObjects.{block_of_chunks}
use Rattle.solo_crash.proofs.ChangedPools.{grown_blocks, grown_pool, grown_sizes, was_no_object}
use Rattle.solo_crash.proofs.MadeObjects.{chunks_grow}
use Rattle.solo_crash.proofs.blocks.new_chunks_hold_a_new_object.Goals as goal

pub returns-clause-pool : goal.returns-clause-pool
returns-clause-pool k = λ w v lanes zones c chunks kind bytes header pool holds made.
    grown_pool w v lanes zones (block_of_chunks lanes c chunks) (chunks_grow w v lanes zones c chunks kind bytes holds.no_fault made) header pool kind bytes holds made.object

pub returns-clause-blocks : goal.returns-clause-blocks
returns-clause-blocks k = λ w v lanes zones c chunks kind bytes none made. grown_blocks w v lanes zones (block_of_chunks lanes c chunks) (chunks_grow w v lanes zones c chunks kind bytes none made)

pub returns-clause-new : goal.returns-clause-new
returns-clause-new k = λ w v lanes zones c chunks kind bytes header pool holds made.
    was_no_object w v lanes zones (block_of_chunks lanes c chunks) (chunks_grow w v lanes zones c chunks kind bytes holds.no_fault made) header pool holds

pub returns-clause-sizes : goal.returns-clause-sizes
returns-clause-sizes k = λ w v lanes zones c chunks kind bytes other none made there. grown_sizes w v lanes zones (block_of_chunks lanes c chunks) (chunks_grow w v lanes zones c chunks kind bytes none made) other there
