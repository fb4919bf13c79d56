use Rattle.std.proofs.Common.{take}
use Rattle.solo_script.specs.Reading.{HasRead}
use Rattle.solo_script.specs.Words.{texts}
use Rattle.solo_script.proofs.parsing.read_lines.Given as goal

-- the lines so far were read
abbrev pub invariant-loop-index : goal.invariant-loop-index
invariant-loop-index l = HasRead l.reader (take l.index (texts l.lines))
