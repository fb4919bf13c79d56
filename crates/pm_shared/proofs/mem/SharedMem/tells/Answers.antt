use Rattle.std.proofs.Common.{refl, sym, subst}
use mathlib.Core.Option.{none}
use Rattle.atomic_table.specs.Table.{step}
use Rattle.pm_view.specs.Steps.Step.{Tell}
use Rattle.pm_world.specs.Memory.{IsSame}
use Rattle.pm_shared.specs.Placing.{memory_of}
use Rattle.pm_shared.proofs.Asked.{asked}
use Rattle.pm_shared.proofs.Looks.{set_same}
use Rattle.pm_shared.proofs.mem.SharedMem.tells.Goals as goal

pub load-requires-clause-step : goal.load-requires-clause-step
load-requires-clause-step g c = asked c.args.self.now c.args.lane c.args.seat.now.me (λ v st r. Tell g.A.Adds.operation g.A.Adds.reply) (step 0 0 0 0 none) (λ r. Tell g.A.Adds.operation g.A.Adds.reply) c.requires.asks
    (λ v s l r. refl)
    c.args.seat.now.id 0 (λ n. n)
    (λ words size B fits. subst (λ ws. IsSame (memory_of c.args.self.now.shape words) (memory_of c.args.self.now.shape ws)) (sym (set_same words 0)) (λ l. refl))
