use Rattle.std.proofs.Common.{take}
use Rattle.pm_words.proofs.Running.{Sums}
use Rattle.pm_words.proofs.sums.sum64.Given as goal

abbrev pub invariant-loop-word : goal.invariant-loop-word
invariant-loop-word l = Sums (take l.word-index l.words) l.low l.high
