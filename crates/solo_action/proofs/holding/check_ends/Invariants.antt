use Rattle.solo_view.specs.View.{View}
use Rattle.solo_action.specs.Holding.{HoldsEach}
use Rattle.solo_action.proofs.EachEnd.{EndsFirst}
use Rattle.solo_action.proofs.holding.check_ends.Given as goal

-- the first so many end inside of their objects
abbrev pub invariant-loop-action : goal.invariant-loop-action
invariant-loop-action g l = (v : View) → g.M.LaneMem.at l.fn.mem v → HoldsEach v l.actions → EndsFirst (g.M.LaneMem.at l.mem) v l.actions l.action-index
