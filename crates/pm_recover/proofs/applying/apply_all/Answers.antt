use Rattle.std.proofs.Common.{◌∷◌, [], List, get_or, subst, sym, take}
use Rattle.std.proofs.lemmas.List.{take_more}
use Rattle.pm_record.specs.declared.redo.Redo.{Redo}
use Rattle.pm_record.specs.declared.redo.Op.TheVariants.{Set}
use Rattle.pm_recover.specs.Steps.{AreApplied}
use Rattle.pm_recover.proofs.AppliedInTurn.{applied_then}
use Rattle.pm_recover.proofs.applying.apply_all.Goals as goal

pub loop-one-preserved : goal.loop-one-preserved
loop-one-preserved c =
    let d : Redo = record { place = 0; op = Set; value = 0 } in
    let k = c.loop-one.one-index in
    subst (λ (es : List Redo). AreApplied es c.args.lanes c.args.image.now c.apply_to_word.new.image) (sym (take_more c.args.entries.now k d c.loop-one-test.true))
    (applied_then (take k c.args.entries.now) (get_or c.args.entries.now k d ∷ []) c.args.lanes c.args.image.now c.loop-one.image c.apply_to_word.new.image c.loop-one.invariant c.apply_to_word.ensures)
