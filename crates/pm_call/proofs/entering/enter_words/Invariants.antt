use Rattle.std.proofs.Common.{◌≡◌, ◌++◌, take}
use Rattle.pm_call.specs.Entering.{entries_of}
use Rattle.pm_call.proofs.entering.enter_words.Given as goal

-- the first so many are entries
abbrev pub invariant-loop-action : goal.invariant-loop-action
invariant-loop-action l = l.entries.items
    ≡ l.fn.entries.items ++ entries_of (take l.action-index l.action-items)
