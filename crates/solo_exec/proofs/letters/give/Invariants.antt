use Rattle.std.proofs.Common.{◌≡◌, ◌++◌, take}
use Rattle.solo_exec.specs.Letters.{offsets_in}
use Rattle.solo_exec.proofs.letters.give.Given as goal

abbrev pub invariant-loop-pair : goal.invariant-loop-pair
invariant-loop-pair l = l.given.items ≡ l.fn.given.items ++ offsets_in (take l.pair-index l.values)
