use Rattle.std.proofs.Common.{◌≡◌, map, take}
use Rattle.solo_epoch.specs.GivingBack.{with_given_back}
use Rattle.solo_pending.specs.AllPending.{object_of}
use Rattle.solo_view.specs.View.{View}
use Rattle.solo_transaction.proofs.giving_back.give_back_each.Given as goal

-- the blocks of the first so many are given back
abbrev pub invariant-loop-one : goal.invariant-loop-one
invariant-loop-one g l =
    ((v : View) → g.M.LaneMem.at l.fn.lane.memory v → v.lanes ≡ l.fn.lane.shape.lanes → g.M.LaneMem.at l.lane.memory (with_given_back v (map object_of (take l.one-index l.reserved))))
    × (l.lane ≡ record l.fn.lane { memory = l.lane.memory })
