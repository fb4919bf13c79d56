use Rattle.std.proofs.Common.{refl}
use Rattle.pm_memory.proofs.Volatile.{zone_try_made}
use Rattle.pm_memory.proofs.solo_sync.SoloMemLaneSync.zone_try.Goals as goal

pub returns-clause-made : goal.returns-clause-made
returns-clause-made c v sees any =
    zone_try_made c.args.self.now c.set_zone_lock.new.self c.args.zone c.zone_lock-taken.result _ c.requires.zone c.requires.free c.zone_lock-taken.ensures refl c.set_zone_lock.ensures v sees
