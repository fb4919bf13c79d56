use Rattle.std.proofs.Common.{◌<◌, refl, arith}
use mathlib.Core.Option.{none}
use Rattle.atomic_table.specs.Table.{step}
use Rattle.pm_view.specs.Steps.Step.{NumberSeen}
use Rattle.pm_world.specs.Memory.{CommitCounter}
use Rattle.pm_shared.proofs.Asked.{asked, below_place}
use Rattle.pm_shared.proofs.Moving as moves
use Rattle.pm_shared.proofs.mem.SharedMem.sees_number.Goals as goal

pub load-requires-clause-step : goal.load-requires-clause-step
load-requires-clause-step c = asked c.args.self.now c.args.lane c.args.seat.now.me (λ v st r. NumberSeen r) (step 0 c.counter_at.result 0 0 none) (λ r. NumberSeen r) c.requires.asks
    (λ v s l r. refl)
    c.args.seat.now.id c.counter_at.result (λ n. n)
    (λ words size B fits. moves.number_moves c.args.self.now.shape words c.counter_at.result c.args.lane (record { is = c.counter_at.ensures; inside = below_place c.args.self.now.shape (CommitCounter) (let e : 0 < 1 = omega arith in e); size = size }))
