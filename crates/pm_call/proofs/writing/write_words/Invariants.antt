use Rattle.std.proofs.Common.{◌+◌, ◌/◌}
use Rattle.pm_plan.specs.Plans.{IsMade, repeated}
use Rattle.pm_call.specs.Plans.{writes_word}
use Rattle.pm_call.proofs.writing.write_words.Given as goal

-- the first so many words are stored
abbrev pub invariant-loop-i : goal.invariant-loop-i
invariant-loop-i g l = IsMade (g.M.LaneMem.at l.fn.mem) (g.M.LaneMem.at l.mem) (repeated (λ i. writes_word l.place l.bytes (l.place / 8 + i)) l.i)
