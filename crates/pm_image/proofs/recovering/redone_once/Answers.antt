use Rattle.std.proofs.Common.{◌*◌, Some, sym, ◌∙◌, ap, eq-eqb}
use Rattle.std.specs.Option.{unwrap_or}
use Rattle.std.proofs.lemmas.Bool.{ne_eqb}
use Rattle.pm_record.specs.Redo.{applied}
use Rattle.pm_image.proofs.Redoing.{once, once_elsewhere, once_nothing}
use Rattle.pm_image.proofs.recovering.redone_once.Goals as goal

pub returns-in-Some : goal.returns-in-Some
returns-in-Some c =
    ap Some (c.apply.ensures.value ∙ ap (applied c.in-Some.entry) (c.unwrap_or.ensures ∙ ap (unwrap_or c.args.before) c.word.ensures))
    ∙ sym (once c.args.before _ c.in-Some.entry (8 * c.args.word) _ (sym c.entry.ensures ∙ c.in-Some.is) (eq-eqb c.in-Some.entry.place (8 * c.args.word) c.if-entry-word.true))

pub returns-in_default : goal.returns-in_default
returns-in_default c =
    sym (once_elsewhere c.args.before _ c.in-Some.entry (8 * c.args.word) _ (sym c.entry.ensures ∙ c.in-Some.is) (ne_eqb c.in-Some.entry.place (8 * c.args.word) c.if-entry-word.false))

pub returns-in_default-2 : goal.returns-in_default-2
returns-in_default-2 c = sym (once_nothing c.args.before _ (8 * c.args.word) _ (sym c.entry.ensures ∙ c.in_default.is))
