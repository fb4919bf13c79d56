use Rattle.std.proofs.Common.{All, take}
use Rattle.solo_crash.specs.OnActions.{HasObject}
use Rattle.solo_view.specs.View.{View}
use Rattle.solo_world.specs.Opening.{Opening}
use Rattle.solo_transaction.specs.AtWork.{IsAtWorkWith}
use Rattle.solo_transaction.proofs.publishing.check_each_owned.Given as goal

-- the lane has the first so many objects
abbrev pub invariant-loop-id : goal.invariant-loop-id
invariant-loop-id g l = (o : Opening) (v : View) → IsAtWorkWith o g.M.LaneMem.at l.lane l.blocks v → All (HasObject v) (take l.id-index l.ids)
