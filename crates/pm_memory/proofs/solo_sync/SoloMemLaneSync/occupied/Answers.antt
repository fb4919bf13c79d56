use Rattle.pm_memory.proofs.Occupying.{occupied_made}
use Rattle.pm_memory.proofs.solo_sync.SoloMemLaneSync.occupied.Goals as goal

pub returns-clause-made : goal.returns-clause-made
returns-clause-made c v sees any = occupied_made c.args.self.now c.args.at c.occupancy.result c.requires c.occupancy.ensures v sees
