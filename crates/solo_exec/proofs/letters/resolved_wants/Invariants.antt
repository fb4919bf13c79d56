use Rattle.std.proofs.Common.{◌≡◌, ◌++◌, map, take}
use Rattle.solo_exec.specs.Letters.{offsets_in, resolved_want}
use Rattle.solo_exec.proofs.letters.resolved_wants.Given as goal

abbrev pub invariant-loop-want : goal.invariant-loop-want
invariant-loop-want l = l.all.items ≡ map (resolved_want (l.given ++ offsets_in l.values)) (take l.want-index l.wants)
