use Rattle.pm_memory.proofs.Volatile.{zone_give_made}
use Rattle.pm_memory.proofs.solo_sync.SoloMemLaneSync.zone_give.Goals as goal

pub returns-clause-made : goal.returns-clause-made
returns-clause-made c v sees any = zone_give_made c.args.self.now c.set_zone_lock.new.self c.args.zone c.requires c.set_zone_lock.ensures v sees
