use Rattle.std.proofs.Common.{◌≡◌, ◌++◌, take}
use Rattle.std.specs.List.{flat_map}
use Rattle.pm_text.specs.Dump.{object_text}
use Rattle.pm_text.proofs.dump.dump_text.Given as goal

abbrev pub invariant-loop-off : goal.invariant-loop-off
invariant-loop-off l = l.out.items ≡ l.initial.out.items ++ flat_map object_text (take l.off-index l.off-items)
