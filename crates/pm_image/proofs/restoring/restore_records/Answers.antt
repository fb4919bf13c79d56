use Rattle.std.proofs.Common.{◌+◌, ◌/◌, ◌<◌, List, [], length, get_or, subst}
use Rattle.pm_record.specs.declared.undo.Undo.{Undo}
use Rattle.pm_image.specs.Steps.{AreRestored}
use Rattle.pm_image.proofs.Logged.{records_more}
use Rattle.pm_image.proofs.restoring.restore_records.Goals as goal

pub loop-one-preserved : goal.loop-one-preserved
loop-one-preserved c =
    let es = c.args.logs.now.entries.items in
    let us = c.args.logs.now.records.items in
    let d : Undo = record { generation = 0; place = 0; count = 0; old = [] } in
    let inside : c.loop-one.one-index < length c.args.logs.now.records.items = subst (λ (xs : List Undo). c.loop-one.one-index < length xs) c.deref-one-items.ensures.value c.loop-one-test.true in
    let step = subst (λ (xs : List Undo). AreRestored es us c.args.image.now c.loop-one.words c.restore.new.words ((get_or xs c.loop-one.one-index d).place / 8) ((get_or xs c.loop-one.one-index d).place / 8 + 4)) c.deref-one-items.ensures.value c.restore.ensures in
    records_more es us c.args.image.now c.loop-one.words c.restore.new.words c.loop-one.one-index d inside c.loop-one.invariant step
