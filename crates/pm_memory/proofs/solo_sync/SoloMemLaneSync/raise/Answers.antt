use Rattle.pm_memory.proofs.Volatile.{raise_made}
use Rattle.pm_memory.proofs.solo_sync.SoloMemLaneSync.raise.Goals as goal

pub returns-clause-made : goal.returns-clause-made
returns-clause-made c v sees any =
    raise_made c.args.self.now c.try_set_lock.new.self c.args.line c.lock_word.result c.raised.result c.try_set_lock.result c.requires.line c.lock_word.ensures c.try_set_lock.ensures c.requires.reads c.raised.ensures v sees
