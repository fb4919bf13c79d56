use Rattle.std.proofs.Common.{All, take}
use Rattle.solo_crash.specs.OnActions.{HasObjectOf}
use Rattle.solo_pending.specs.Pending.{action_of}
use Rattle.solo_pending.specs.declared.actions.SetAction.{SetAction}
use Rattle.solo_view.specs.View.{View}
use Rattle.solo_world.specs.Opening.{Opening}
use Rattle.solo_transaction.specs.AtWork.{IsAtWorkWith}
use Rattle.solo_transaction.proofs.publish_checks.check_owned.Given as goal

-- the lane has the objects of the first so many actions
abbrev pub invariant-loop-action : goal.invariant-loop-action
invariant-loop-action g l = (o : Opening) (v : View) → IsAtWorkWith o g.M.LaneMem.at l.lane l.blocks v → All (λ (a : SetAction). HasObjectOf v (action_of a)) (take l.action-index l.actions)
