use Rattle.std.proofs.Common.{◌++◌, List, sym, ◌∙◌, ap}
use Rattle.pm_record.specs.declared.undo.Undo.{Undo}
use Rattle.pm_image.specs.Logs.{records}
use Rattle.pm_image.proofs.Ranges.{parts_more}
use Rattle.pm_image.proofs.restoring.valid_records.Goals as goal

pub loop-lane-preserved : goal.loop-lane-preserved
loop-lane-preserved c =
    c.in_ok-push_records.ensures ∙ ap (λ (us : List Undo). us ++ records c.args.image.now c.loop-lane.lane) c.loop-lane.invariant ∙ sym (parts_more (records c.args.image.now) c.loop-lane.lane)
