use Rattle.std.proofs.Common.{sym, ◌∙◌}
use Rattle.pm_run.proofs.Flags.{drained_end, drained_found, drained_next}
use Rattle.pm_run.proofs.fates.drained_value.Goals as goal

pub returns-then-change-word : goal.returns-then-change-word
returns-then-change-word c =
    sym (drained_found c.args.words.now c.args.changes.now c.args.word c.loop-change.change-index _
    c.loop-change-test.true c.if-change-word.true) ∙ c.loop-change.invariant

pub loop-change-preserved : goal.loop-change-preserved
loop-change-preserved c =
    sym (drained_next c.args.words.now c.args.changes.now c.args.word c.loop-change.change-index _
    c.loop-change-test.true c.if-change-word.false) ∙ c.loop-change.invariant

pub returns : goal.returns
returns c =
    sym (drained_end c.args.words.now c.args.changes.now c.args.word c.loop-change.change-index
    c.loop-change-test.false) ∙ c.loop-change.invariant
