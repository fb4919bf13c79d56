use Rattle.solo_crash.proofs.ChangesKept.{can_kept}
use Rattle.solo_crash.proofs.MayChange.{free_chunks, free_in_run, may_be_freed}
use Rattle.solo_crash.proofs.blocks.blocks_may_be_changed.Goals as goal

pub returns-clause-run : goal.returns-clause-run
returns-clause-run c = free_in_run

pub returns-clause-chunks : goal.returns-clause-chunks
returns-clause-chunks c = free_chunks

pub returns-clause-freed : goal.returns-clause-freed
returns-clause-freed c = may_be_freed

pub returns-clause-kept : goal.returns-clause-kept
returns-clause-kept c = λ w v lanes zones change can same. can_kept w v lanes zones same change can
