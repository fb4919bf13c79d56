use Rattle.std.proofs.Common.{◌≡◌, ◌++◌, map, take}
use Rattle.solo_pending.specs.Pending.{redo_for}
use Rattle.solo_pending.proofs.actions.list_entries.Given as goal

-- the entries of the first so many are listed
abbrev pub invariant-loop-action : goal.invariant-loop-action
invariant-loop-action g l = (l.lane ≡ record l.fn.lane { entries = l.lane.entries }) × (l.lane.entries.items ≡ l.fn.lane.entries.items ++ map redo_for (take l.action-index l.actions))
