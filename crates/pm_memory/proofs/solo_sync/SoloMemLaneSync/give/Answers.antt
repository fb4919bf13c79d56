use Rattle.pm_memory.proofs.Volatile.{give_made}
use Rattle.pm_memory.proofs.solo_sync.SoloMemLaneSync.give.Goals as goal

pub returns-clause-made : goal.returns-clause-made
returns-clause-made c v sees any = give_made c.args.self.now c.set_lock.new.self c.args.line c.lock_word.result c.given.result c.requires c.lock_word.ensures c.given.ensures c.set_lock.ensures v sees
