use Rattle.std.proofs.Common.{◌≡◌, None, take}
use Rattle.solo_exec.specs.Letters.{offset_given, offsets_in}
use Rattle.solo_exec.proofs.letters.offset_among.Given as goal

abbrev pub invariant-loop-pair : goal.invariant-loop-pair
invariant-loop-pair l = offset_given (offsets_in (take l.pair-index l.values)) l.line ≡ None
