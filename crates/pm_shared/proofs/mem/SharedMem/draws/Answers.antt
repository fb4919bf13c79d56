use Rattle.std.proofs.Common.{◌+◌, ◌%◌, ◌^◌, ◌<◌, refl, arith}
use mathlib.Core.Option.{none}
use Rattle.atomic_table.specs.Table.{step}
use Rattle.pm_view.specs.Steps.Step.{Draw}
use Rattle.pm_world.specs.Memory.{CommitCounter}
use Rattle.pm_shared.proofs.Asked.{asked, below_place, draw_room}
use Rattle.pm_shared.proofs.Moving as moves
use Rattle.pm_shared.proofs.mem.SharedMem.draws.Goals as goal

pub add-requires-clause-step : goal.add-requires-clause-step
add-requires-clause-step c = asked c.args.self.now c.args.lane c.args.seat.now.me (λ v st r. Draw r) (step 0 c.counter_at.result 1 0 none) (λ r. Draw r) c.requires.asks
    (λ v s l r. refl)
    c.args.seat.now.id c.counter_at.result (λ n. (n + 1) % 2 ^ 64)
    (λ words size B fits. moves.draw_moves c.args.self.now.shape words c.counter_at.result c.args.lane (draw_room c.args.self.now words c.requires.asks.view c.counter_at.result B (record { is = c.counter_at.ensures; inside = below_place c.args.self.now.shape (CommitCounter) (let e : 0 < 1 = omega arith in e); size = size })) (record { is = c.counter_at.ensures; inside = below_place c.args.self.now.shape (CommitCounter) (let e : 0 < 1 = omega arith in e); size = size }))
