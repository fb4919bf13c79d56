use Rattle.pm_memory.proofs.Occupying.{vacate_made}
use Rattle.pm_memory.proofs.solo_sync.SoloMemLaneSync.vacate.Goals as goal

pub returns-clause-made : goal.returns-clause-made
returns-clause-made c v sees any = vacate_made c.args.self.now c.set_occupancy.new.self c.args.at c.args.bits c.occupancy-found.result c.requires c.occupancy-found.ensures c.set_occupancy.ensures v sees
