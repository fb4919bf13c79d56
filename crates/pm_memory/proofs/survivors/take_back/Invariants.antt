use Rattle.std.proofs.Common.{◌-◌, length}
use Rattle.pm_memory.proofs.Passing.{IsPassed}
use Rattle.pm_memory.proofs.survivors.take_back.Given as goal

abbrev pub invariant-loop-word : goal.invariant-loop-word
invariant-loop-word l = IsPassed l.changes l.initial.words l.words l.initial.kept l.kept l.word

abbrev pub decreases-loop-word : goal.decreases-loop-word
decreases-loop-word l = length l.initial.words - l.word
