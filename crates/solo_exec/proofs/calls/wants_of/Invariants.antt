use Rattle.std.proofs.Common.{◌≡◌, map, take}
use Rattle.solo_exec.specs.Calls.{want_of}
use Rattle.solo_exec.proofs.calls.wants_of.Given as goal

abbrev pub invariant-loop-want : goal.invariant-loop-want
invariant-loop-want l = l.all.items ≡ map (want_of l.names) (take l.want-index l.wants)
