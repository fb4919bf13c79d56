use Rattle.pm_plan.specs.Plans.{IsMade, repeated}
use Rattle.pm_redo.specs.Entries.{entry_at}
use Rattle.pm_redo.specs.Plans.{writes_pair}
use Rattle.pm_redo.proofs.pairs.write_pairs.Given as goal

-- the first so many entries are stored
abbrev pub invariant-loop-i : goal.invariant-loop-i
invariant-loop-i g l = IsMade (g.M.LaneMem.at l.fn.mem) (g.M.LaneMem.at l.mem)
    (repeated (λ i. writes_pair l.shape l.lane i (entry_at l.entries i)) l.i)
