-- Bytes that are written into an object that is reserved where no transaction is open (pmemobj_reserve(3)): the write is a call of its own, of a lane that is alone.
use Rattle.std.specs.Prelude.{◌≡◌, ℕ, ◌∷◌, ◌<◌, true, false, Bool, List, [], length, None, Some}
use Rattle.pm_header.specs.declared.header.Header.{Header}
use Rattle.solo_crash.specs.HeldHistory.{IsEndedCall}
use Rattle.solo_crash.specs.Pending.{pending_before}
use Rattle.solo_crash.specs.Reserving.{WritesReserved, put_refusal}
use Rattle.solo_epoch.specs.Reserving.{IsAloneBetween, RestsWithReserved, with_next_call}
use Rattle.pm_objects.specs.declared.calls.Operation.TheVariants.{WriteReserved}
use Rattle.pm_objects.specs.declared.history.Value.TheVariants.{Refused}
use Rattle.pm_objects.specs.declared.ids.Oid.{Oid}
use Rattle.pm_objects.specs.declared.pool.PoolView.{PoolView}
use Rattle.pm_objects.specs.declared.refusal.Refusal.{Refusal}
use Rattle.pm_objects.specs.declared.refusal.Refusal.TheVariants as refusal
use Rattle.solo_pending.specs.AllPending.{IsPendingAs}
use Rattle.solo_pending.specs.declared.pending.PendingActions.{PendingActions}
use Rattle.solo_view.specs.Steps.{Step}
use Rattle.solo_view.specs.Steps.Step.{Draw}
use Rattle.solo_view.specs.View.{View}
use Rattle.solo_view.specs.Views.{after, after_all}
use Rattle.solo_world.specs.Lawful.{Allowed, generation_limit}
use Rattle.solo_world.specs.Records.{generation_of}
use Rattle.solo_world.specs.Opening.{Opening}
use Rattle.solo_world.specs.Sequences.{Ready}
use Rattle.solo_world.specs.declared.lane.Lane.{Lane}
use Rattle.solo_lock.specs.Leading.{DrawEnded, IsLed}
use Rattle.solo_lock.specs.Resting.{IsAtRest}
use Rattle.solo_tx.specs.Ending.{drawn_more}
use Rattle.solo_tx.specs.Ranges.{StopsUndrawn}
use Rattle.solo_transaction.specs.Filling.{HasReservedRange, puts_range}
use Rattle.solo_action.specs.BegunAlone.{BeginsAlone}
use Rattle.solo_action.specs.Outside.{IsToldAtOnce, RestsStill}

-- ---- a call that has begun

-- some view that the lane may be seen as has begun so, and the range is one of an object that is reserved
abbrev pub MayPutOutside : {M : Type 0} → (M → View → Type 0) → Lane M → Oid → ℕ → ℕ → Type 0
MayPutOutside at lane id off len = (w : View) × (BeginsAlone at lane w × HasReservedRange w id off len)

-- the view once the bytes are written and that is told, and once the call drew this number
abbrev pub put_view : View → Oid → ℕ → List ℕ → View
put_view w id off bytes = after_all w (puts_range id off bytes w)

abbrev pub put_drawn : View → Oid → ℕ → List ℕ → ℕ → View
put_drawn w id off bytes n = after (put_view w id off bytes) (Draw n)

-- From the view as the call had begun the lane wrote the bytes, told so and drew its last number: the write is the plain model's, of an ended call, and the lane rests. The
-- list is what is pending still, and what is reserved stands, in whatever world the call began.
pub record HasPutBegun {M : Type 0} (at : M → View → Type 0) (lane : Lane M) (w : View) (id : Oid) (off : ℕ) (bytes : List ℕ) : Type 0 where
  pub ready : Ready w (puts_range id off bytes w)
  pub draws : DrawEnded w (puts_range id off bytes w)
  pub written : WritesReserved w (put_view w id off bytes) id off bytes
  pub may_draw : Allowed (put_view w id off bytes) (Draw lane.last)
  pub rests : IsAtRest at lane (put_drawn w id off bytes lane.last)
  pub ended : (o : Opening) (header : Header) (pool : PoolView) (start : View) (steps : List Step) → IsAloneBetween o header pool start steps w lane.shape → IsEndedCall (put_view w id off bytes)
  pub keeps : (o : Opening) (header : Header) (pool : PoolView) (start : View) (steps : List Step) → IsAloneBetween o header pool start steps w lane.shape → RestsStill o header pool (put_drawn w id off bytes lane.last) lane.shape

-- ---- from rest

-- from the view at rest the lane began its next call, wrote the bytes, told so and drew its last number: the write is the plain model's, all of an ended call, and the
-- lane rests. The list is what is pending still; and in whatever world the lane rested with what it had reserved, it rests with that now
pub record HasPutOutside {M : Type 0} (at : M → View → Type 0) (lane : Lane M) (pending : PendingActions) (v : View) (id : Oid) (off : ℕ) (bytes : List ℕ) : Type 0 where
  pub led : IsLed v (with_next_call v)
  pub below : generation_of v < generation_limit
  pub ready : Ready (with_next_call v) (puts_range id off bytes (with_next_call v))
  pub draws : DrawEnded (with_next_call v) (puts_range id off bytes (with_next_call v))
  pub written : WritesReserved (with_next_call v) (put_view (with_next_call v) id off bytes) id off bytes
  pub may_draw : Allowed (put_view (with_next_call v) id off bytes) (Draw lane.last)
  pub rests : IsAtRest at lane (put_drawn (with_next_call v) id off bytes lane.last)
  pub listed : IsPendingAs pending (pending_before (put_drawn (with_next_call v) id off bytes lane.last))
  pub entries : (put_drawn (with_next_call v) id off bytes lane.last).entries ≡ drawn_more v.entries lane.last (record { operation = WriteReserved id off bytes; reply = None } ∷ [])
  pub ended : (o : Opening) (header : Header) (pool : PoolView) (start : View) (steps : List Step) → RestsWithReserved o header pool start steps v lane.shape → IsEndedCall (put_view (with_next_call v) id off bytes)
  pub keeps : (o : Opening) (header : Header) (pool : PoolView) (start : View) (steps : List Step) → RestsWithReserved o header pool start steps v lane.shape
      → RestsStill o header pool (put_drawn (with_next_call v) id off bytes lane.last) lane.shape

-- none of them was written, for this reason, which was told at once
pub record HasRefusedPutOutside {M : Type 0} (at : M → View → Type 0) (lane : Lane M) (v : View) (id : Oid) (off : ℕ) (bytes : List ℕ) (r : Refusal) : Type 0 where
  pub reason : put_refusal v.pool (pending_before v) id off (length bytes) ≡ Some r
  pub told : IsToldAtOnce at lane v (WriteReserved id off bytes) (Some (Refused r))

-- the lane began its next call, and stopped as it wrote the bytes, before that was told. It tells no number, since none was drawn
pub record HasStoppedPutting {M : Type 0} (at : M → View → Type 0) (lane : Lane M) (v : View) (id : Oid) (off : ℕ) (bytes : List ℕ) : Type 0 where
  pub led : IsLed v (with_next_call v)
  pub below : generation_of v < generation_limit
  pub range : HasReservedRange (with_next_call v) id off (length bytes)
  pub stops : StopsUndrawn (at lane.memory) (with_next_call v) (puts_range id off bytes)
  pub stopped : lane.stopped ≡ true
  pub undrawn : lane.drawn ≡ None

-- why bytes are not written, of a lane that had stopped or not: one that had not may stop in it
abbrev pub IsPutCause : Bool → Refusal → Type 0
IsPutCause stopped refusal.Stopped = Unit {0}
IsPutCause stopped refusal.Spent = stopped ≡ false
IsPutCause stopped refusal.NotReserved = stopped ≡ false
IsPutCause stopped refusal.OutOfRange = stopped ≡ false
IsPutCause stopped r = ⊥
