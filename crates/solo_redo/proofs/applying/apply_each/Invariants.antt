use Rattle.solo_world.specs.Sequences.{IsMade, counted}
use Rattle.solo_redo.specs.Sequences.{applies_entry, entry_at}
use Rattle.solo_redo.proofs.applying.apply_each.Given as goal

-- the first so many are applied
abbrev pub invariant-loop-entry : goal.invariant-loop-entry
invariant-loop-entry g l = IsMade (g.M.LaneMem.at l.fn.mem) (g.M.LaneMem.at l.mem) (counted (λ i. applies_entry (entry_at l.entries i)) l.entry-index)
