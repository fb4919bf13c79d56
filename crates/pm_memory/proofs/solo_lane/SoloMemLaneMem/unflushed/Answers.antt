use Rattle.std.proofs.Common.{List, subst, ap}
use Rattle.pm_view.specs.declared.change.Change.{Change}
use Rattle.pm_memory.specs.Changes.{IsLeastUnflushed}
use Rattle.pm_memory.specs.Solo.{Solo}
use Rattle.pm_memory.proofs.Undrained.{first-unflushed}
use Rattle.pm_memory.proofs.solo_lane.SoloMemLaneMem.unflushed.Goals as goal

pub returns-clause-seen : goal.returns-clause-seen
returns-clause-seen c v sees =
    first-unflushed c.args.self.now.changes v.changes c.first_unflushed.result sees.changes (subst (λ (changes : List Change). IsLeastUnflushed changes c.first_unflushed.result) (ap (λ (m : Solo). m.changes) c.self.view_is) c.first_unflushed.ensures)
