use Rattle.std.proofs.Common.{take}
use Rattle.pm_view.specs.View.{View}
use Rattle.pm_view.specs.Views.{after_all}
use Rattle.pm_lock.specs.Holding.{MayGiveAll}
use Rattle.pm_lock.specs.Steps.{gives}
use Rattle.pm_lock.proofs.giving.give_all.Given as goal

-- the first so many are given back
abbrev pub invariant-loop-held : goal.invariant-loop-held
invariant-loop-held g l = (v : View) → g.M.LaneMem.at l.fn.mem v → MayGiveAll v l.locks → g.M.LaneMem.at l.mem (after_all v (gives (take l.held-index l.locks)))
