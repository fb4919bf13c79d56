use Rattle.std.proofs.Common.{◌≡◌, ◌++◌, map, take}
use Rattle.std.specs.List.{All}
use Rattle.solo_made.specs.Entries.{AllocatesBlockOf, entry_making}
use Rattle.solo_made.proofs.EachEntry.{Performs}
use Rattle.solo_made.proofs.entries.list_made.Given as goal

-- the entries of the first so many are listed, and each performs what is done with its object's block
abbrev pub invariant-loop-object : goal.invariant-loop-object
invariant-loop-object g l =
    (l.lane ≡ record l.fn.lane { entries = l.lane.entries })
    × (l.lane.entries.items ≡ l.fn.lane.entries.items ++ map (entry_making l.fn.lane.shape.lanes) (take l.object-index l.made))
    × All (Performs l.fn.lane.shape.lanes (AllocatesBlockOf l.fn.lane.shape.lanes) (entry_making l.fn.lane.shape.lanes)) (take l.object-index l.made)
