use Rattle.std.proofs.Common.{◌≡◌, ◌++◌, take}
use Rattle.pm_text.specs.Dump.{hex_of}
use Rattle.pm_text.proofs.digits.push_hex.Given as goal

abbrev pub invariant-loop-byte : goal.invariant-loop-byte
invariant-loop-byte l = l.out.items ≡ l.initial.out.items ++ hex_of (take l.byte-index l.bytes)
