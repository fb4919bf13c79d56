use Rattle.pm_memory.proofs.Occupying.{occupy_refused, occupy_made}
use Rattle.pm_memory.proofs.solo_sync.SoloMemLaneSync.occupy.Goals as goal

pub returns-then-found-bits-ne0-clause-made : goal.returns-then-found-bits-ne0-clause-made
returns-then-found-bits-ne0-clause-made c v sees any = occupy_refused c.args.self.now c.args.at c.args.bits c.occupancy-found.result c.requires c.occupancy-found.ensures c.if-found-bits-ne0.true v sees

pub returns-clause-made : goal.returns-clause-made
returns-clause-made c v sees any = occupy_made c.args.self.now c.set_occupancy.new.self c.args.at c.args.bits c.occupancy-found.result c.requires c.occupancy-found.ensures c.if-found-bits-ne0.false c.set_occupancy.ensures v sees
