use Rattle.std.proofs.Common.{◌≡◌, ◌++◌, take, drop}
use Rattle.solo_view.specs.Changes.{flushed}
use Rattle.solo_memory.proofs.changes.Changes.flush.Given as goal

-- the changes passed are marked
abbrev pub invariant-loop-change : goal.invariant-loop-change
invariant-loop-change l = l.change-items ≡ flushed l.line (take l.change-index l.initial.change-items) ++ drop l.change-index l.initial.change-items
