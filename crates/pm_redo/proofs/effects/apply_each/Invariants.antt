use Rattle.std.proofs.Common.{ℕ}
use Rattle.pm_plan.specs.Plans.{IsMade, repeated}
use Rattle.pm_redo.specs.Entries.{entry_at}
use Rattle.pm_redo.specs.Plans.{applies_entry}
use Rattle.pm_redo.proofs.effects.apply_each.Given as goal

-- the first so many entries are applied, for what they found
abbrev pub invariant-loop-entry : goal.invariant-loop-entry
invariant-loop-entry g l = (found : ℕ → ℕ) × IsMade (g.M.LaneMem.at l.fn.mem) (g.M.LaneMem.at l.mem)
    (repeated (λ i. applies_entry (entry_at l.entries i) (found i)) l.entry-index)
