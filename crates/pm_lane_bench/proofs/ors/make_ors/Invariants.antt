use Rattle.std.proofs.Common.{ℕ}
use Rattle.pm_plan.specs.Plans.{IsMade, repeated}
use Rattle.pm_redo.specs.Entries.{entry_at}
use Rattle.pm_redo.specs.Plans.{applies_entry}
use Rattle.pm_lane_bench.specs.Calls.{ors_listed}
use Rattle.pm_lane_bench.proofs.ors.make_ors.Given as goal

-- so many ORs are made, for what they found
abbrev pub invariant-loop : goal.invariant-loop
invariant-loop g l = (found : ℕ → ℕ) × IsMade (g.M.LaneMem.at l.fn.mem) (g.M.LaneMem.at l.mem)
    (repeated (λ i. applies_entry (entry_at ors_listed i) (found i)) l.counter)
