use Rattle.solo_view.specs.Steps.Step.{Give}
use Rattle.solo_world.specs.Sequences.{IsMade, counted, one}
use Rattle.solo_lock.specs.Locking.{line_at}
use Rattle.solo_lock.proofs.locking.give_all.Given as goal

-- the first so many are given back
abbrev pub invariant-loop-held : goal.invariant-loop-held
invariant-loop-held g l = IsMade (g.M.LaneMem.at l.fn.mem) (g.M.LaneMem.at l.mem) (counted (λ i. one (Give (line_at l.locks i))) l.held-index)
