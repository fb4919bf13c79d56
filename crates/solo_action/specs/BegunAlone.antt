-- A call outside of a transaction that a lane has begun which is alone.
use Rattle.std.specs.Prelude.{List}
use Rattle.pm_header.specs.declared.header.Header.{Header}
use Rattle.solo_crash.specs.Pending.{pending_in}
use Rattle.solo_epoch.specs.Reserving.{IsAloneBetween}
use Rattle.pm_objects.specs.declared.pool.PoolView.{PoolView}
use Rattle.solo_pending.specs.AllPending.{IsPendingAs}
use Rattle.solo_pending.specs.declared.pending.PendingActions.{PendingActions}
use Rattle.solo_view.specs.Steps.{Step}
use Rattle.solo_view.specs.View.{View}
use Rattle.solo_world.specs.Opening.{Opening}
use Rattle.solo_world.specs.declared.lane.Lane.{Lane}
use Rattle.solo_lock.specs.Begun.{IsBegun}

-- the lane is alone, its call has begun with nothing told, and what it has reserved stands, in some world
pub record BeginsAlone {M : Type 0} (at : M → View → Type 0) (lane : Lane M) (w : View) : Type 0 where
  pub begun : IsBegun at lane w
  pub world : (o : Opening) × (header : Header) × (pool : PoolView) × (start : View) × (steps : List Step) × IsAloneBetween o header pool start steps w lane.shape

-- some view that the lane may be seen as has begun so, and lists there all that is pending
abbrev pub BeginsWithPending : {M : Type 0} → (M → View → Type 0) → Lane M → PendingActions → Type 0
BeginsWithPending at lane pending = (w : View) × (BeginsAlone at lane w × IsPendingAs pending (pending_in w))
