use Rattle.pm_lock.proofs.KeptBlocks.{raised_keep, taken_keep}
use Rattle.pm_lock.proofs.laws.locks_keep_blocks.Goals as goal

pub returns-clause-taken : goal.returns-clause-taken
returns-clause-taken c v w locks taken = taken_keep v w locks taken

pub returns-clause-raised : goal.returns-clause-raised
returns-clause-raised c v writes locks = raised_keep v writes locks
