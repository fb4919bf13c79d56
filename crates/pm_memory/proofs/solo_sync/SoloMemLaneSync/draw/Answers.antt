use Rattle.std.proofs.Common.{◌+◌, ap}
use Rattle.pm_memory.specs.Solo.{Solo}
use Rattle.pm_memory.proofs.Occupying.{draw_made}
use Rattle.pm_memory.proofs.solo_sync.SoloMemLaneSync.draw.Goals as goal

pub returns-clause-made : goal.returns-clause-made
returns-clause-made c v sees any = draw_made c.args.self.now _ _ c.requires (ap (λ (m : Solo). m.number) c.self.view_is) (ap (λ (m : Solo). record m { number = m.number + 1 }) c.self.view_is) v sees
