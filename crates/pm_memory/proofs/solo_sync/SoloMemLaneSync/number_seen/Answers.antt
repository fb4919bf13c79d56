use Rattle.std.proofs.Common.{ap}
use Rattle.pm_memory.specs.Solo.{Solo}
use Rattle.pm_memory.proofs.Occupying.{number_seen_made}
use Rattle.pm_memory.proofs.solo_sync.SoloMemLaneSync.number_seen.Goals as goal

pub returns-clause-made : goal.returns-clause-made
returns-clause-made c v sees any = number_seen_made c.args.self.now c.self.inside.number (ap (λ (m : Solo). m.number) c.self.view_is) v sees
