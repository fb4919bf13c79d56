use Rattle.std.proofs.Common.{length}
use Rattle.pm_text.proofs.Putting.{HasPut}
use Rattle.pm_text.proofs.printing.put_lines.Given as goal

abbrev pub invariant-loop-rest : goal.invariant-loop-rest
invariant-loop-rest g l = HasPut l.initial.rest l.rest (g.K.Sink.told l.initial.out) (g.K.Sink.told l.out) (g.K.Sink.faults l.initial.out) (g.K.Sink.faults l.out)

abbrev pub decreases-loop-rest : goal.decreases-loop-rest
decreases-loop-rest g l = length l.rest
