use Rattle.std.proofs.Common.{◌≡◌, drop}
use Rattle.pm_crash.specs.Fates.{drained_value}
use Rattle.pm_run.proofs.fates.drained_value.Given as goal

-- none of the changes so far is of the word
abbrev pub invariant-loop-change : goal.invariant-loop-change
invariant-loop-change l =
    drained_value l.words (drop l.change-index l.changes) l.word
    ≡ drained_value l.words l.changes l.word
