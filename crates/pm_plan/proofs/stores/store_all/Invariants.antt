use Rattle.std.proofs.Common.{◌+◌, slice_index}
use Rattle.pm_plan.specs.Plans.{IsMade, repeated, stores}
use Rattle.pm_plan.proofs.stores.store_all.Given as goal

-- the first so many words are stored
abbrev pub invariant-loop-i : goal.invariant-loop-i
invariant-loop-i g l = IsMade (g.M.LaneMem.at l.fn.mem) (g.M.LaneMem.at l.mem) (repeated (λ i. stores (l.first + i) (slice_index l.values i)) l.i)
