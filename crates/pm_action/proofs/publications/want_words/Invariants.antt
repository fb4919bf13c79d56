use Rattle.std.proofs.Common.{◌≡◌, ◌≤◌, take}
use Rattle.pm_call.specs.PublicationParts.{wants_of_actions}
use Rattle.pm_action.proofs.publications.want_words.Given as goal

-- those of the first so many are listed
abbrev pub invariant-loop-action : goal.invariant-loop-action
invariant-loop-action l = (l.many ≤ l.action-index)
    × (take l.many l.wants ≡ wants_of_actions (take l.action-index l.pending))
