use Rattle.std.proofs.Common.{◌≡◌, ◌++◌, take, drop}
use Rattle.pm_memory.specs.Changes.{changes_flushed}
use Rattle.pm_shared.proofs.tally.Tally.flushed.Given as goal

-- the changes passed are marked
abbrev pub invariant-loop-change : goal.invariant-loop-change
invariant-loop-change l = l.change-items ≡ changes_flushed l.line (take l.change-index l.initial.change-items) ++ drop l.change-index l.initial.change-items
