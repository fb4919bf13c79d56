use Rattle.pm_memory.proofs.Occupying.{stop_seen_made}
use Rattle.pm_memory.proofs.solo_sync.SoloMemLaneSync.stop_seen.Goals as goal

pub returns-clause-made : goal.returns-clause-made
returns-clause-made c v sees any = stop_seen_made c.args.self.now c.self.inside.stopped v sees
