use Rattle.pm_memory.proofs.Volatile.{read_made}
use Rattle.pm_memory.proofs.solo_sync.SoloMemLaneSync.take_read.Goals as goal

pub returns-clause-made : goal.returns-clause-made
returns-clause-made c v sees any =
    read_made c.args.self.now c.try_set_lock.new.self c.args.line c.lock_word.result c.read_taken.result c.try_set_lock.result c.requires.line c.lock_word.ensures c.try_set_lock.ensures c.requires.free c.read_taken.ensures v sees
