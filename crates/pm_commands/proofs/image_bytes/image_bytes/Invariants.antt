use Rattle.std.proofs.Common.{◌≡◌, ◌*◌, take}
use Rattle.pm_words.specs.Words.{bytes_of}
use Rattle.pm_commands.proofs.image_bytes.image_bytes.Given as goal

abbrev pub invariant-loop-line : goal.invariant-loop-line
invariant-loop-line l = l.bytes.items ≡ bytes_of (take (8 * l.line) l.image)
