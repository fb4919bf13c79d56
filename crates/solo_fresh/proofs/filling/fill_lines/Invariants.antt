use Rattle.solo_world.specs.Sequences.{IsMade, counted}
use Rattle.solo_fresh.specs.Filling.{fills_line}
use Rattle.solo_fresh.proofs.filling.fill_lines.Given as goal

-- the first so many lines are filled
abbrev pub invariant-loop-i : goal.invariant-loop-i
invariant-loop-i g l = IsMade (g.M.LaneMem.at l.fn.mem) (g.M.LaneMem.at l.mem) (counted (fills_line l.line l.header.kind l.header.size) l.i)
