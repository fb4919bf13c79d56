use Rattle.std.proofs.Common.{◌+◌, ◌%◌, ◌^◌, List, ap, ◌∙◌, not, rules}
use Rattle.std.proofs.lemmas.List.Elements.{filter_from_retain}
use Rattle.pm_view.specs.declared.change.Change.{Change}
use Rattle.pm_memory.specs.Changes.{changes_drained}
use Rattle.pm_shared.specs.Tallies.{Tallied, tallied}
use Rattle.pm_shared.proofs.tally.Tally.drained.Goals as goal

pub returns : goal.returns
returns c =
    ap (λ (changes : List Change). record { stop = c.self.inside.stop; calls = (c.self.inside.calls + 1) % 2 ^ 64; changes = changes }) (filter_from_retain _ (λ (x : Change). not x.flushed) (λ p x b q r. search rules) _ _ _ c.retain.ensures.filtered)
    ∙ ap (λ (t : Tallied). tallied (changes_drained t.changes) t) c.self.view_is
