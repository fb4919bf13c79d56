-- An object that is reserved where no transaction is open (pmemobj_reserve(3)): the reservation is a call of its own, of a lane that is alone. What it leaves, done, refused or
-- stopped.
use Rattle.std.specs.Prelude.{◌≡◌, ℕ, ◌+◌, ◌<◌, ◌≤◌, ◌∷◌, true, false, Bool, List, [], None, Some}
use Rattle.std.specs.Option.{ForSome}
use Rattle.pm_header.specs.declared.header.Header.{Header}
use Rattle.pm_image.specs.declared.block.Block.{Block}
use Rattle.solo_memory.specs.declared.lane_mem.Stopped.{Stopped}
use Rattle.solo_crash.specs.HeldHistory.{IsEndedCall}
use Rattle.solo_crash.specs.Pending.{pending_before, pending_in}
use Rattle.solo_crash.specs.Reserving.{IsReserveReason}
use Rattle.solo_model.specs.Actions.{max_actions, pending_count}
use Rattle.pm_objects.specs.declared.calls.Operation.TheVariants.{Reserve}
use Rattle.pm_objects.specs.declared.history.Value.TheVariants.{Offset, Refused}
use Rattle.pm_objects.specs.declared.ids.Oid.{Oid}
use Rattle.pm_objects.specs.declared.pool.PoolView.{PoolView}
use Rattle.pm_objects.specs.declared.refusal.Refusal.{Refusal}
use Rattle.pm_objects.specs.declared.refusal.Refusal.TheVariants as refusal
use Rattle.solo_pending.specs.AllPending.{IsPendingAs}
use Rattle.solo_pending.specs.declared.pending.PendingActions.{PendingActions}
use Rattle.solo_view.specs.Steps.{Step}
use Rattle.solo_view.specs.Steps.Step.{Draw, Tell}
use Rattle.solo_view.specs.View.{View}
use Rattle.solo_view.specs.Views.{after}
use Rattle.solo_world.specs.Lawful.{Allowed, generation_limit}
use Rattle.solo_world.specs.Records.{generation_of}
use Rattle.solo_world.specs.Opening.{Opening}
use Rattle.solo_world.specs.declared.lane.Lane.{Lane}
use Rattle.solo_blocks.specs.declared.making.NoBlock.TheVariants as no_block
use Rattle.solo_alloc.specs.NewObjects.{GivesNoObject, HasNewObject}
use Rattle.solo_epoch.specs.Allocating.{object_in_block}
use Rattle.solo_epoch.specs.Reserving.{IsAloneBetween, RestsWithReserved, with_next_call, with_object_reserved}
use Rattle.solo_lock.specs.Leading.{IsLed}
use Rattle.solo_lock.specs.Resting.{IsAtRest}
use Rattle.solo_tx.specs.Ending.{drawn_more}
use Rattle.solo_transaction.specs.Allocating.{CameToRefuse}
use Rattle.solo_action.specs.Outside.{RestsStill}

-- the view once an object that was made in the block is told as reserved, and the call drew this number
abbrev pub reserved_drawn : View → Block → ℕ → ℕ → ℕ → View
reserved_drawn u block size kind n = after (with_object_reserved u (object_in_block block size kind)) (Draw n)

-- the view once the refusal is told, and once the call drew this number
abbrev pub refused_view : View → ℕ → ℕ → Refusal → View
refused_view x size kind r = after x (Tell (Reserve size kind) (Some (Refused r)))

abbrev pub refused_drawn : View → ℕ → ℕ → Refusal → ℕ → View
refused_drawn x size kind r n = after (refused_view x size kind r) (Draw n)

-- ---- a call that has begun

-- From the view as the call had begun the lane made an object of this size and type, in a block that was reserved as `reserve` does, told its offset and drew its last number.
-- The lane passed no stop number, and rests. The reservation is of an ended call, and what is reserved stands, in whatever world the call began.
pub record HasReservedBegun {M : Type 0} (at : M → View → Type 0) (lane : Lane M) (pending : PendingActions) (w : View) (size kind : ℕ) (id : Oid) : Type 0 where
  pub block : Block
  pub is : id ≡ record { pool = w.pool; off = block.place + 64 }
  -- once the object is made, and before it is told
  pub view : View
  pub made : HasNewObject (λ u. u ≡ view) w size kind block
  pub within : ForSome view.stop (λ stop. view.calls ≤ stop)
  pub some : 1 ≤ size
  pub most : size ≤ 262080
  pub room : pending_count (pending_in w) < max_actions
  pub undrawn : view.entries ≡ w.entries
  pub untold : view.call ≡ w.call
  pub may_draw : Allowed (with_object_reserved view (object_in_block block size kind)) (Draw lane.last)
  pub rests : IsAtRest at lane (reserved_drawn view block size kind lane.last)
  pub listed : IsPendingAs pending (pending_in (with_object_reserved view (object_in_block block size kind)))
  pub ended : (o : Opening) (header : Header) (pool : PoolView) (start : View) (steps : List Step) → IsAloneBetween o header pool start steps w lane.shape → IsEndedCall (with_object_reserved view (object_in_block block size kind))
  pub keeps : (o : Opening) (header : Header) (pool : PoolView) (start : View) (steps : List Step) → IsAloneBetween o header pool start steps w lane.shape → RestsStill o header pool (reserved_drawn view block size kind lane.last) lane.shape

-- there was this reason to refuse the reservation, which was told: the lane drew its last number and rests, and what is reserved stands
pub record HasRefusedBegun {M : Type 0} (at : M → View → Type 0) (lane : Lane M) (w : View) (size kind : ℕ) (r : Refusal) : Type 0 where
  pub view : View
  pub came : CameToRefuse w size r view
  pub reason : IsReserveReason (pending_in w) size r
  pub undrawn : view.entries ≡ w.entries
  pub untold : view.call ≡ w.call
  pub may_draw : Allowed (refused_view view size kind r) (Draw lane.last)
  pub rests : IsAtRest at lane (refused_drawn view size kind r lane.last)
  pub ended : (o : Opening) (header : Header) (pool : PoolView) (start : View) (steps : List Step) → IsAloneBetween o header pool start steps w lane.shape → IsEndedCall (refused_view view size kind r)
  pub keeps : (o : Opening) (header : Header) (pool : PoolView) (start : View) (steps : List Step) → IsAloneBetween o header pool start steps w lane.shape → RestsStill o header pool (refused_drawn view size kind r lane.last) lane.shape

-- ---- from rest

-- From the view at rest the lane began its next call, made an object of this size and type, in a block that was reserved as `reserve` does, told its offset and drew its last
-- number. The lane passed no stop number, and rests. The list is what is pending then, with the reservation, which is of an ended call; and in whatever world the lane rested with
-- what it had reserved, it rests with that and with the object now.
pub record HasReservedOutside {M : Type 0} (at : M → View → Type 0) (lane : Lane M) (pending : PendingActions) (v : View) (size kind : ℕ) (id : Oid) : Type 0 where
  pub led : IsLed v (with_next_call v)
  pub below : generation_of v < generation_limit
  pub block : Block
  pub is : id ≡ record { pool = v.pool; off = block.place + 64 }
  -- once the object is made, and before it is told
  pub view : View
  pub made : HasNewObject (λ u. u ≡ view) (with_next_call v) size kind block
  pub within : ForSome view.stop (λ stop. view.calls ≤ stop)
  pub some : 1 ≤ size
  pub most : size ≤ 262080
  pub room : pending_count (pending_before v) < max_actions
  pub may_draw : Allowed (with_object_reserved view (object_in_block block size kind)) (Draw lane.last)
  pub rests : IsAtRest at lane (reserved_drawn view block size kind lane.last)
  pub listed : IsPendingAs pending (pending_before (reserved_drawn view block size kind lane.last))
  pub entries : (reserved_drawn view block size kind lane.last).entries ≡ drawn_more v.entries lane.last (record { operation = Reserve size kind; reply = Some (Offset (block.place + 64)) } ∷ [])
  pub ended : (o : Opening) (header : Header) (pool : PoolView) (start : View) (steps : List Step) → RestsWithReserved o header pool start steps v lane.shape → IsEndedCall (with_object_reserved view (object_in_block block size kind))
  pub keeps : (o : Opening) (header : Header) (pool : PoolView) (start : View) (steps : List Step) → RestsWithReserved o header pool start steps v lane.shape → RestsStill o header pool (reserved_drawn view block size kind lane.last) lane.shape

-- From the view at rest the lane began its next call, and there was this reason to refuse the reservation, which was told; the lane drew its last number and rests. The refusal is
-- of an ended call, what is pending stays, and in whatever world the lane rested with what it had reserved, it rests with that now.
pub record HasRefusedOutside {M : Type 0} (at : M → View → Type 0) (lane : Lane M) (v : View) (size kind : ℕ) (r : Refusal) : Type 0 where
  pub led : IsLed v (with_next_call v)
  pub below : generation_of v < generation_limit
  pub view : View
  pub came : CameToRefuse (with_next_call v) size r view
  pub reason : IsReserveReason (pending_before v) size r
  pub may_draw : Allowed (refused_view view size kind r) (Draw lane.last)
  pub rests : IsAtRest at lane (refused_drawn view size kind r lane.last)
  pub entries : (refused_drawn view size kind r lane.last).entries ≡ drawn_more v.entries lane.last (record { operation = Reserve size kind; reply = Some (Refused r) } ∷ [])
  pub pending : pending_before (refused_drawn view size kind r lane.last) ≡ pending_before v
  pub ended : (o : Opening) (header : Header) (pool : PoolView) (start : View) (steps : List Step) → RestsWithReserved o header pool start steps v lane.shape → IsEndedCall (refused_view view size kind r)
  pub keeps : (o : Opening) (header : Header) (pool : PoolView) (start : View) (steps : List Step) → RestsWithReserved o header pool start steps v lane.shape → RestsStill o header pool (refused_drawn view size kind r lane.last) lane.shape

-- the lane began its next call, and stopped as it made the object: as it made a run for the block, or filled that. It tells no number, since none was drawn
pub record HasStoppedReserving {M : Type 0} (at : M → View → Type 0) (lane : Lane M) (v : View) (size kind : ℕ) : Type 0 where
  pub led : IsLed v (with_next_call v)
  pub below : generation_of v < generation_limit
  pub stop : Stopped
  pub gives : GivesNoObject (at lane.memory) (with_next_call v) size kind (no_block.Stopped stop)
  pub stopped : lane.stopped ≡ true
  pub undrawn : lane.drawn ≡ None

-- why an object is not reserved, of a lane that had stopped or not: one that had not may stop in it
abbrev pub IsReserveCause : Bool → Refusal → Type 0
IsReserveCause stopped refusal.Stopped = Unit {0}
IsReserveCause stopped refusal.Spent = stopped ≡ false
IsReserveCause stopped refusal.BadSize = stopped ≡ false
IsReserveCause stopped refusal.ActionsFull = stopped ≡ false
IsReserveCause stopped refusal.NoSpace = stopped ≡ false
IsReserveCause stopped r = ⊥
