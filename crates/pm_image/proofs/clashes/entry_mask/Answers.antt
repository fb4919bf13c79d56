use Rattle.std.proofs.Common.{sym, ◌∙◌}
use Rattle.std.proofs.lemmas.Bool.{eq-eqb}
use Rattle.pm_image.proofs.Masks.{one_mask}
use Rattle.pm_image.proofs.clashes.entry_mask.Goals as goal

pub returns-in-Some : goal.returns-in-Some
returns-in-Some c =
    c.mask.ensures ∙ sym (one_mask _ c.in-Some.found c.args.place (sym c.entry.ensures ∙ c.in-Some.is) (eq-eqb c.in-Some.found.place c.args.place c.if-found-place.true))
