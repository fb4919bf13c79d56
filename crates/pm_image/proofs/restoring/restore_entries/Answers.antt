use Rattle.std.proofs.Common.{◌+◌, ◌/◌, ◌<◌, List, length, get_or, subst}
use Rattle.pm_record.specs.declared.redo.Redo.{Redo}
use Rattle.pm_record.specs.declared.redo.Op.TheVariants.{Set}
use Rattle.pm_image.specs.Steps.{AreRestored}
use Rattle.pm_image.proofs.Logged.{entries_more}
use Rattle.pm_image.proofs.restoring.restore_entries.Goals as goal

pub loop-one-preserved : goal.loop-one-preserved
loop-one-preserved c =
    let es = c.args.logs.now.entries.items in
    let us = c.args.logs.now.records.items in
    let d : Redo = record { place = 0; op = Set; value = 0 } in
    let inside : c.loop-one.one-index < length c.args.logs.now.entries.items = subst (λ (xs : List Redo). c.loop-one.one-index < length xs) c.deref-one-items.ensures.value c.loop-one-test.true in
    let step = subst (λ (xs : List Redo). AreRestored es us c.args.image.now c.loop-one.words c.restore.new.words ((get_or xs c.loop-one.one-index d).place / 8) ((get_or xs c.loop-one.one-index d).place / 8 + 1)) c.deref-one-items.ensures.value c.restore.ensures in
    entries_more es us c.args.image.now c.loop-one.words c.restore.new.words c.loop-one.one-index d inside c.loop-one.invariant step
