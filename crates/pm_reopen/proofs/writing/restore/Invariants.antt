use Rattle.std.specs.List.{flat_map, range_with_len}
use Rattle.pm_reopen.specs.Running.{Makes}
use Rattle.pm_reopen.proofs.Parts.{restore_call}
use Rattle.pm_reopen.proofs.writing.restore.Given as goal

abbrev pub invariant-loop-k : goal.invariant-loop-k
invariant-loop-k l = Makes l.initial.mem l.mem (flat_map (restore_call l.one) (range_with_len 0 l.k))
