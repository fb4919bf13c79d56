use Rattle.solo_world.specs.Sequences.{IsMade, counted}
use Rattle.solo_undo.specs.Sequences.{restores_word}
use Rattle.solo_undo.proofs.restoring.restore_record.Given as goal

-- the first so many are put back
abbrev pub invariant-loop-i : goal.invariant-loop-i
invariant-loop-i g l = IsMade (g.M.LaneMem.at l.fn.mem) (g.M.LaneMem.at l.mem) (counted (restores_word l.lane l.slot l.span.word) l.i)
