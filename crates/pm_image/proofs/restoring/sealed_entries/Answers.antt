use Rattle.std.proofs.Common.{◌++◌, List, sym, ◌∙◌, ap}
use Rattle.pm_record.specs.declared.redo.Redo.{Redo}
use Rattle.pm_image.specs.Logs.{entries}
use Rattle.pm_image.proofs.Ranges.{parts_more}
use Rattle.pm_image.proofs.restoring.sealed_entries.Goals as goal

pub loop-lane-preserved : goal.loop-lane-preserved
loop-lane-preserved c =
    c.in_ok-push_entries.ensures ∙ ap (λ (es : List Redo). es ++ entries c.args.image.now c.loop-lane.lane) c.loop-lane.invariant ∙ sym (parts_more (entries c.args.image.now) c.loop-lane.lane)
