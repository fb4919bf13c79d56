use Rattle.std.proofs.Common.{take}
use Rattle.pm_memory.specs.Changes.{IsLeastUnflushed}
use Rattle.pm_shared.proofs.tally.Tally.unflushed.Given as goal

-- the first of the changes that were looked at
abbrev pub invariant-loop-change : goal.invariant-loop-change
invariant-loop-change l = IsLeastUnflushed (take l.change-index l.self.changes) l.first
