use Rattle.std.proofs.Common.{◌+◌, ap, arith}
use Rattle.solo_memory.specs.Solo.{Solo}
use Rattle.solo_memory.proofs.Numbering.{draw_made}
use Rattle.solo_memory.proofs.solo_sync.SoloMemLaneSync.draw.Goals as goal

pub overflow_add-number : goal.overflow_add-number
overflow_add-number c = omega (arith, c.requires, ap (λ (m : Solo). m.number) c.self.view_is)

pub returns-clause-made : goal.returns-clause-made
returns-clause-made c = draw_made c.args.self.now _ _ (ap (λ (m : Solo). m.number + 1) c.self.view_is) (ap (λ (m : Solo). record m { number = m.number + 1 }) c.self.view_is)
