-- Bytes that are written into an object that is reserved (pmemobj_reserve(3)), in a transaction: what that needs, and what it leaves, done or refused: docs/MODEL.md,
-- "Transactions that make objects".
use Rattle.std.specs.Prelude.{ℕ, ◌+◌, ◌≤◌, List, length, None, Some}
use Rattle.pm_objects.specs.declared.calls.Operation.TheVariants.{WriteReserved}
use Rattle.pm_objects.specs.declared.history.Value.TheVariants.{Refused}
use Rattle.pm_objects.specs.declared.ids.Oid.{Oid}
use Rattle.pm_objects.specs.declared.refusal.Refusal.{Refusal}
use Rattle.solo_view.specs.Steps.Step.{Tell}
use Rattle.solo_view.specs.View.{View}
use Rattle.solo_view.specs.Views.{after, after_all}
use Rattle.solo_world.specs.Opening.{Opening}
use Rattle.solo_world.specs.Sequences.{Ready, Sequence, in_turn, one}
use Rattle.solo_world.specs.declared.lane.Lane.{Lane}
use Rattle.solo_lock.specs.Leading.{DrawEnded}
use Rattle.solo_crash.specs.Pending.{pending_in}
use Rattle.solo_crash.specs.Reserving.{IsReservedOne, RefusesPut, WritesReserved}
use Rattle.solo_made.specs.Made.{BlockLists}
use Rattle.solo_pending.specs.AllPending.{IsPendingAs}
use Rattle.solo_pending.specs.declared.pending.PendingActions.{PendingActions}
use Rattle.solo_tx.specs.Sequences.{writes}
use Rattle.solo_transaction.specs.AtWork.{IsAtWorkWith}
use Rattle.solo_transaction.specs.Deferring.{HasToldPending}

-- the bytes are written, one store for each word that they cover, in rising place, and that is told
unfoldable pub puts_range : Oid → ℕ → List ℕ → Sequence
puts_range id off bytes = in_turn (writes (id.off + off) bytes) (one (Tell (WriteReserved id off bytes) None))

-- the range ends where an object that is reserved ends, or before
pub record HasReservedRange (v : View) (id : Oid) (off len : ℕ) : Type 0 where
  pub has : IsReservedOne v.pool (pending_in v) id
  pub inside : off + len ≤ length has.one.bytes

-- some view that the lane may be seen as is at work with some lists, and the range is one of an object that is reserved
abbrev pub MayPut : {M : Type 0} → (M → View → Type 0) → Lane M → Oid → ℕ → ℕ → Type 0
MayPut at lane id off len = (o : Opening) × (blocks : BlockLists) × (v : View) × IsAtWorkWith o at lane blocks v × HasReservedRange v id off len

-- the lane is at work with these lists as some view, whatever it was opened with, and lists there all that is pending
abbrev pub IsLaneWithPending : {M : Type 0} → (M → View → Type 0) → Lane M → BlockLists → PendingActions → Type 0
IsLaneWithPending at lane blocks pending = (o : Opening) × (v : View) × IsAtWorkWith o at lane blocks v × IsPendingAs pending (pending_in v)

-- from the view before the lane wrote the bytes, is at work still, and the write is the plain model's. No number was drawn
pub record HasPut {M : Type 0} (o : Opening) (at : M → View → Type 0) (lane : Lane M) (blocks : BlockLists) (v : View) (id : Oid) (off : ℕ) (bytes : List ℕ) : Type 0 where
  pub ready : Ready v (puts_range id off bytes v)
  pub draws : DrawEnded v (puts_range id off bytes v)
  pub works : IsAtWorkWith o at lane blocks (after_all v (puts_range id off bytes v))
  pub written : WritesReserved v (after_all v (puts_range id off bytes v)) id off bytes

-- there was this reason to write none of them, which was told; the lane is at work still, lists what is pending as it did, and nothing else changed
pub record HasRefusedPut {M : Type 0} (o : Opening) (at : M → View → Type 0) (lane : Lane M) (blocks : BlockLists) (pending : PendingActions) (v : View) (id : Oid) (off : ℕ) (bytes : List ℕ) (r : Refusal) : Type 0 where
  pub refuses : RefusesPut v (after v (Tell (WriteReserved id off bytes) (Some (Refused r)))) id off bytes r
  pub told : HasToldPending o at lane blocks pending v (WriteReserved id off bytes) (Some r)
