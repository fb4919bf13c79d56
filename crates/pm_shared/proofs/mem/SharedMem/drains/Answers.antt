use Rattle.std.proofs.Common.{refl}
use mathlib.Core.Option.{none}
use Rattle.atomic_table.specs.Table.{step}
use Rattle.pm_view.specs.Steps.Step.{Drain}
use Rattle.pm_shared.proofs.Asked.{asked}
use Rattle.pm_shared.proofs.Moving as moves
use Rattle.pm_shared.proofs.mem.SharedMem.drains.Goals as goal

pub load-requires-clause-step : goal.load-requires-clause-step
load-requires-clause-step c = asked c.args.self.now c.args.lane c.args.seat.now.me (λ v st r. Drain) (step 0 c.pulse_at.result 0 0 none) (λ r. Drain) c.requires.asks
    (λ v s l r. refl)
    c.args.seat.now.id c.pulse_at.result (λ n. n)
    (λ words size B fits. moves.pulse_moves c.args.self.now.shape words c.pulse_at.result c.args.lane c.args.lane _ c.pulse_at.ensures c.requires.few)
