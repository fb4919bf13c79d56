use Rattle.std.proofs.Common.{sym, subst}
use Rattle.pm_memory.specs.Solo.{Solo, Sees, says_stopped}
use Rattle.pm_memory.proofs.Seeing.{sees_stopped}
use Rattle.pm_memory.proofs.solo_sync.SoloMemLaneSync.set_stop.Goals as goal

pub returns-clause-made : goal.returns-clause-made
returns-clause-made c v sees any =
    let said : Sees (says_stopped c.args.self.now) v = sees_stopped c.args.self.now v sees in
    (subst (λ (m : Solo). Sees (says_stopped m) v) (sym c.self.view_is) said, tt)
