use Rattle.std.proofs.Common.{◌≡◌, ◌++◌, drop}
use Rattle.pm_transcript.specs.Lines.{shown}
use Rattle.pm_transcript.proofs.lines.push_first.Given as goal

abbrev pub invariant-loop-byte : goal.invariant-loop-byte
invariant-loop-byte l =
    l.text.items ++ shown (drop l.byte-index l.answer) l.left ≡ l.initial.text.items ++ shown l.answer l.count
