use Rattle.std.proofs.Common.{◌≡◌, ◌++◌}
use Rattle.pm_transcript.specs.Lines.{repeated, with_feed}
use Rattle.pm_transcript.proofs.lines.push_repeated.Given as goal

abbrev pub invariant-loop : goal.invariant-loop
invariant-loop l = l.text.items ≡ l.initial.text.items ++ repeated l.counter (with_feed l.line)
