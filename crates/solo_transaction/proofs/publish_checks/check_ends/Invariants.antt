use Rattle.std.proofs.Common.{◌≡◌, All, take}
use Rattle.solo_crash.specs.OnActions.{CanSetIn}
use Rattle.solo_pending.specs.Pending.{action_of}
use Rattle.solo_pending.specs.declared.actions.SetAction.{SetAction}
use Rattle.solo_view.specs.View.{View}
use Rattle.solo_world.specs.Opening.{Opening}
use Rattle.solo_transaction.specs.AtWork.{HasLookedWith, IsAtWorkWith}
use Rattle.solo_transaction.proofs.publish_checks.check_ends.Given as goal

-- the lane looked at some words, and may set what the first so many actions do
abbrev pub invariant-loop-action : goal.invariant-loop-action
invariant-loop-action g l =
    (l.lane ≡ record l.fn.lane { memory = l.lane.memory })
    × ((o : Opening) (v : View) → IsAtWorkWith o g.M.LaneMem.at l.fn.lane l.blocks v → HasLookedWith o g.M.LaneMem.at l.lane l.blocks v (λ w. All (λ (a : SetAction). CanSetIn w (action_of a)) (take l.action-index l.actions)))
