use Rattle.pm_reopen.proofs.Flushing.{AreFlushed}
use Rattle.pm_reopen.proofs.writing.flush_all.Given as goal

abbrev pub invariant-loop-line : goal.invariant-loop-line
invariant-loop-line l = AreFlushed l.initial.mem l.mem l.line
