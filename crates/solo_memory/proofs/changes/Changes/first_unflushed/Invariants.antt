use Rattle.std.proofs.Common.{take}
use Rattle.solo_view.specs.Counts.{IsFirstUnflushed}
use Rattle.solo_memory.proofs.changes.Changes.first_unflushed.Given as goal

-- the first of the changes that were looked at
abbrev pub invariant-loop-change : goal.invariant-loop-change
invariant-loop-change l = IsFirstUnflushed (take l.change-index l.self) l.first
