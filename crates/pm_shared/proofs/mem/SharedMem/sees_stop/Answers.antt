use Rattle.std.proofs.Common.{◌<◌, eqb, not, refl, arith}
use mathlib.Core.Option.{none}
use Rattle.atomic_table.specs.Table.{step}
use Rattle.pm_view.specs.Steps.Step.{StopSeen}
use Rattle.pm_world.specs.Memory.{StopWord}
use Rattle.pm_shared.proofs.Asked.{asked, below_place}
use Rattle.pm_shared.proofs.Moving as moves
use Rattle.pm_shared.proofs.mem.SharedMem.sees_stop.Goals as goal

pub load-requires-clause-step : goal.load-requires-clause-step
load-requires-clause-step c = asked c.args.self.now c.args.lane c.args.seat.now.me (λ v st r. StopSeen (not (eqb r 0))) (step 0 c.stop_at.result 0 0 none) (λ r. StopSeen (not (eqb r 0))) c.requires.asks
    (λ v s l r. refl)
    c.args.seat.now.id c.stop_at.result (λ n. n)
    (λ words size B fits. moves.stop_moves c.args.self.now.shape words c.stop_at.result c.args.lane (record { is = c.stop_at.ensures; inside = below_place c.args.self.now.shape (StopWord) (let e : 0 < 1 = omega arith in e); size = size }))
