use Rattle.std.proofs.Common.{ℕ}
use Rattle.pm_view.specs.View.{View}
use Rattle.pm_view.specs.Views.{after_all}
use Rattle.pm_world.specs.Lawful.{MayTake}
use Rattle.pm_lock.specs.Steps.{refusals}
use Rattle.pm_lock.proofs.taking.wait_line.Given as goal

-- so many tries failed
abbrev pub invariant-loop : goal.invariant-loop
invariant-loop g l = (v : View) → g.M.LaneMem.at l.fn.mem v → MayTake v l.line → (n : ℕ) × g.M.LaneMem.at l.mem (after_all v (refusals n l.line l.write))
