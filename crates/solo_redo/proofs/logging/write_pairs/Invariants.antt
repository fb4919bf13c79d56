use Rattle.solo_world.specs.Sequences.{IsMade, counted}
use Rattle.solo_redo.specs.Sequences.{entry_at, writes_pair}
use Rattle.solo_redo.proofs.logging.write_pairs.Given as goal

-- the first so many are stored
abbrev pub invariant-loop-i : goal.invariant-loop-i
invariant-loop-i g l = IsMade (g.M.LaneMem.at l.fn.mem) (g.M.LaneMem.at l.mem) (counted (λ i. writes_pair l.lane i (entry_at l.entries i)) l.i)
