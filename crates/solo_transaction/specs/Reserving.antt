-- An object reserved in a transaction (pmemobj_reserve(3)): what it leaves, done, refused or stopped: docs/MODEL.md, "Transactions that make objects".
use Rattle.std.specs.Prelude.{◌≡◌, ℕ, ◌+◌, ◌≤◌, List, Some}
use Rattle.std.specs.Option.{ForSome}
use Rattle.pm_header.specs.declared.header.Header.{Header}
use Rattle.pm_image.specs.declared.block.Block.{Block}
use Rattle.pm_objects.specs.declared.calls.Operation.TheVariants.{Reserve}
use Rattle.pm_objects.specs.declared.history.Value.TheVariants.{Refused}
use Rattle.pm_objects.specs.declared.ids.Oid.{Oid}
use Rattle.pm_objects.specs.declared.pool.PoolView.{PoolView}
use Rattle.pm_objects.specs.declared.refusal.Refusal.{Refusal}
use Rattle.solo_view.specs.Steps.{Step}
use Rattle.solo_view.specs.Steps.Step.{Tell}
use Rattle.solo_view.specs.View.{View}
use Rattle.solo_view.specs.Views.{after}
use Rattle.solo_world.specs.Opening.{Opening}
use Rattle.solo_world.specs.declared.lane.Lane.{Lane}
use Rattle.solo_alloc.specs.NewObjects.{HasNewObject}
use Rattle.solo_crash.specs.Alone.{WorksAlone}
use Rattle.solo_crash.specs.Pending.{pending_in}
use Rattle.solo_crash.specs.Reserving.{IsReserveReason, ReservesObject}
use Rattle.solo_made.specs.Made.{BlockLists}
use Rattle.solo_pending.specs.AllPending.{IsPendingAs}
use Rattle.solo_pending.specs.declared.pending.PendingActions.{PendingActions}
use Rattle.solo_pending.specs.declared.pending.Reserved.{Reserved}
use Rattle.solo_epoch.specs.Allocating.{object_in_block}
use Rattle.solo_epoch.specs.Reserving.{with_object_reserved}
use Rattle.solo_transaction.specs.Allocating.{CameToRefuse, MayAllocate}
use Rattle.solo_transaction.specs.AtWork.{IsAtWorkWith}

-- From the view before the lane made an object of this size and type, and told its offset as reserved: the object in a block that was reserved as `reserve` does,
-- and filled. It is listed with what is pending. Where the lane works alone, and passed no stop number, the object is one that the plain model lets its call
-- reserve, and it may make another.
pub record HasReservedObject {M : Type 0} (o : Opening) (at : M → View → Type 0) (lane : Lane M) (blocks : BlockLists) (pending : PendingActions) (v : View) (size kind : ℕ) (id : Oid) : Type 0 where
  pub block : Block
  pub is : id ≡ record { pool = v.pool; off = block.place + 64 }
  -- once the object is made, and before it is told
  pub view : View
  pub made : HasNewObject (λ w. w ≡ view) v size kind block
  pub seen : at lane.memory (with_object_reserved view (object_in_block block size kind))
  pub listed : (header : Header) (pool : PoolView) (start : View) (steps : List Step) → WorksAlone o header pool start steps v → ForSome view.stop (λ stop. view.calls ≤ stop)
      → IsPendingAs pending (pending_in (with_object_reserved view (object_in_block block size kind)))
  pub reserves : (header : Header) (pool : PoolView) (start : View) (steps : List Step) → WorksAlone o header pool start steps v → ForSome view.stop (λ stop. view.calls ≤ stop)
      → ReservesObject v (with_object_reserved view (object_in_block block size kind)) (object_in_block block size kind)
  pub works : (header : Header) (pool : PoolView) (start : View) (steps : List Step) → WorksAlone o header pool start steps v → ForSome view.stop (λ stop. view.calls ≤ stop)
      → MayAllocate o at lane blocks (with_object_reserved view (object_in_block block size kind))

-- there was this reason to refuse the reservation, which was told; the lane is at work still, and nothing else changed
pub record HasRefusedReserve {M : Type 0} (o : Opening) (at : M → View → Type 0) (lane : Lane M) (blocks : BlockLists) (v : View) (size kind : ℕ) (r : Refusal) : Type 0 where
  pub view : View
  pub came : CameToRefuse v size r view
  pub reason : IsReserveReason (pending_in view) size r
  pub works : IsAtWorkWith o at lane blocks (after view (Tell (Reserve size kind) (Some (Refused r))))
