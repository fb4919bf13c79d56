use Rattle.std.proofs.Common.{ap, ◌∙◌, not, rules}
use Rattle.std.proofs.lemmas.List.Elements.{filter_from_retain}
use Rattle.pm_view.specs.declared.change.Change.{Change}
use Rattle.pm_memory.specs.Changes.{changes_drained}
use Rattle.pm_memory.proofs.changes.Changes.drain.Goals as goal

pub returns : goal.returns
returns c = filter_from_retain _ (λ (x : Change). not x.flushed) (λ p x b q r. search rules) _ _ _ c.retain.ensures.filtered ∙ ap changes_drained c.self.view_is
