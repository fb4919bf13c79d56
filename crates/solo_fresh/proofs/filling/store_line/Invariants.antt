use Rattle.std.proofs.Common.{◌+◌, ◌*◌}
use Rattle.solo_world.specs.Sequences.{IsMade, counted}
use Rattle.solo_fresh.specs.Filling.{stores_fresh}
use Rattle.solo_fresh.proofs.filling.store_line.Given as goal

-- the first so many words of the line are stored
abbrev pub invariant-loop-j : goal.invariant-loop-j
invariant-loop-j g l = IsMade (g.M.LaneMem.at l.fn.mem) (g.M.LaneMem.at l.mem) (counted (λ j. stores_fresh l.line l.header.kind l.header.size (8 * l.i + j)) l.j)
