use Rattle.std.proofs.Common.{List, ℕ, map, subst}
use Rattle.pm_run.specs.Fates.{AreDrained, AreTold}
use Rattle.pm_run.specs.Jobs.{items_of}
use Rattle.pm_run.specs.declared.fates.DrainedLog.{DrainedLog}
use Rattle.pm_run.proofs.Flags.{judged}
use Rattle.pm_run.proofs.fates.crash_judged.Goals as goal

pub returns-clause-kept : goal.returns-clause-kept
returns-clause-kept c =
    judged c.args.shape c.args.words.items (map items_of c.args.undrained.now)
    c.crash-image.result.items c.drained_logs.new.logs.items c.tell_kept.new.kept.items
    (subst (λ (words : List ℕ). AreDrained c.args.shape words (map items_of c.args.undrained.now)
    c.drained_logs.new.logs.items) c.as_slice.ensures.value c.drained_logs.ensures)
    (subst (λ (image : List ℕ). AreTold c.args.shape c.drained_logs.new.logs.items image
    c.tell_kept.new.kept.items) c.as_slice-2.ensures.value
    (subst (λ (logs : List DrainedLog). AreTold c.args.shape logs c.as_slice-2.result.now
    c.tell_kept.new.kept.items) c.as_slice-3.ensures.value c.tell_kept.ensures))
