use Rattle.std.proofs.Common.{eqb, refl}
use mathlib.Core.Option.{none}
use prog.Atomic.{either}
use Rattle.atomic_table.specs.Table.{step}
use Rattle.pm_view.specs.Steps.Step.{Flush}
use Rattle.pm_shared.proofs.Asked.{asked}
use Rattle.pm_shared.proofs.Moving as moves
use Rattle.pm_shared.proofs.mem.SharedMem.flushes.Goals as goal

pub pulse-requires-clause-step : goal.pulse-requires-clause-step
pulse-requires-clause-step c = asked c.args.self.now c.args.lane c.args.seat.now.me (λ v st r. Flush st.first) (step 0 c.pulse_at.result c.args.line c.args.line none) (λ r. Flush c.args.line) c.requires.asks
    (λ v s l r. refl)
    c.args.seat.now.id c.pulse_at.result (λ n. either (eqb n c.args.line) c.args.line n)
    (λ words size B fits. moves.pulse_moves c.args.self.now.shape words c.pulse_at.result c.args.lane c.args.lane _ c.pulse_at.ensures c.requires.few)
