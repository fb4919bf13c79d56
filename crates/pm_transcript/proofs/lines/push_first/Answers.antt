use Rattle.std.proofs.Common.{rules, ◌≡◌, drop, codes}
use Rattle.pm_transcript.specs.Lines.{shown}
use Rattle.pm_transcript.proofs.Shown.{rest_left_out}
use Rattle.pm_transcript.proofs.lines.push_first.Goals as goal

pub returns-then-left-eq0 : goal.returns-then-left-eq0
returns-then-left-eq0 c =
    let rest : shown (drop c.loop-byte.byte-index c.args.answer.now) c.loop-byte.left ≡ codes "..\n"
    = rest_left_out c.args.answer.now c.loop-byte.byte-index c.loop-byte.left (search rules) (search rules) in
    search rules
