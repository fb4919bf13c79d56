use Rattle.std.proofs.Common.{◌≡◌, map, take}
use Rattle.pm_calls.specs.Calls.{want_of}
use Rattle.pm_calls.proofs.operations.wants_of.Given as goal

abbrev pub invariant-loop-want : goal.invariant-loop-want
invariant-loop-want l = l.all.items ≡ map (want_of l.names) (take l.want-index l.wants)
