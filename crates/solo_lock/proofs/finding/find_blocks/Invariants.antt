use Rattle.std.proofs.Common.{◌≡◌, take}
use Rattle.solo_view.specs.View.{View}
use Rattle.solo_lock.specs.Begun.{IsBegun}
use Rattle.solo_lock.specs.Finding.{HasLooked}
use Rattle.solo_lock.specs.Lacking.{pages_of}
use Rattle.solo_lock.proofs.finding.find_blocks.Given as goal

-- the lane has looked at the chunks so far
abbrev pub invariant-loop-held : goal.invariant-loop-held
invariant-loop-held g l =
    ((v : View) → IsBegun g.M.LaneMem.at l.fn.lane v → HasLooked g.M.LaneMem.at l.lane v (pages_of (take l.held-index l.plan))) × (l.lane ≡ record l.fn.lane { memory = l.lane.memory; locks = l.lane.locks })
