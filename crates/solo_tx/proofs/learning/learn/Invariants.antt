use Rattle.std.proofs.Common.{◌/◌}
use Rattle.solo_view.specs.View.{View}
use Rattle.solo_tx.specs.Learning.{Learns}
use Rattle.solo_tx.proofs.learning.learn.Given as goal

-- the first so many words are loaded
abbrev pub invariant-loop-i : goal.invariant-loop-i
invariant-loop-i g l = (v : View) → g.M.LaneMem.at l.fn.mem v → (w : View) × (g.M.LaneMem.at l.mem w × Learns (l.place / 8) l.i v w)
