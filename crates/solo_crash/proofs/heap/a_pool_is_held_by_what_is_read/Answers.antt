use Rattle.solo_crash.proofs.HeldAlike.{blocks_by_reads, held_by_reads}
use Rattle.solo_crash.proofs.heap.a_pool_is_held_by_what_is_read.Goals as goal

pub returns-clause-pool : goal.returns-clause-pool
returns-clause-pool c = held_by_reads

pub returns-clause-blocks : goal.returns-clause-blocks
returns-clause-blocks c = blocks_by_reads
