use Rattle.std.specs.List.{flat_map, range_with_len}
use Rattle.pm_reopen.specs.Running.{Makes}
use Rattle.pm_reopen.proofs.Parts.{stray_calls}
use Rattle.pm_reopen.proofs.clearing.clear_slots.Given as goal

abbrev pub invariant-loop-slot : goal.invariant-loop-slot
invariant-loop-slot l = Makes l.initial.mem l.mem (flat_map (stray_calls l.image l.lane) (range_with_len 0 l.slot))
