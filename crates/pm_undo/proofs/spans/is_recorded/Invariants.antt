use Rattle.std.proofs.Common.{◌≡◌, false, take}
use Rattle.pm_model.specs.Items.{is_among}
use Rattle.pm_undo.specs.Spans.{words_in}
use Rattle.pm_undo.proofs.spans.is_recorded.Given as goal

-- none of the records looked at has the word
abbrev pub invariant-loop-kept : goal.invariant-loop-kept
invariant-loop-kept l = is_among (words_in (take l.kept-index l.records)) l.word ≡ false
