use Rattle.std.specs.List.{flat_map, range_with_len}
use Rattle.pm_reopen.specs.Running.{Makes}
use Rattle.pm_reopen.proofs.Parts.{entry_calls}
use Rattle.pm_reopen.proofs.writing.apply_entries.Given as goal

abbrev pub invariant-loop-i : goal.invariant-loop-i
invariant-loop-i l = Makes l.initial.mem l.mem (flat_map (entry_calls l.image l.lane) (range_with_len 0 l.i))
