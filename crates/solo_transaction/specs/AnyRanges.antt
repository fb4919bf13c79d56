-- Which object a range is of, why an operation on it is refused, and what the refusal leaves: docs/MODEL.md, "Transactions that make objects".
use Rattle.std.specs.Prelude.{◌≡◌, ◌≢◌, ◌⊎◌, ℕ, ◌+◌, ◌<◌, ◌≤◌, ◌||◌, true, false, Contains, List, Result, Ok, Err, None, Some}
use Rattle.solo_crash.specs.CallBlocks.{CallBlocks as Call, IsOldIn, NewObject, is_at}
use Rattle.solo_crash.specs.Operations.{IsGone, IsReason, PassesNewEnd}
use Rattle.solo_model.specs.Bytes.{is_among}
use Rattle.solo_model.specs.Checks.{Range, needs_write}
use Rattle.pm_objects.specs.declared.calls.Operation.{Operation}
use Rattle.pm_objects.specs.declared.history.Value.TheVariants.{Refused}
use Rattle.pm_objects.specs.declared.ids.Oid.{Oid}
use Rattle.pm_objects.specs.declared.refusal.Refusal.{Refusal}
use Rattle.pm_objects.specs.declared.refusal.Refusal.TheVariants as refusal
use Rattle.solo_tx.specs.Ending.{IsEndedBy, IsStoppedIn}
use Rattle.solo_tx.specs.Sequences.{gives_up}
use Rattle.solo_view.specs.View.{View}
use Rattle.solo_world.specs.Sequences.{Sequence}
use Rattle.solo_world.specs.declared.lane.Lane.{Lane}
use Rattle.solo_world.specs.declared.lane.Span.{Span}
use Rattle.std.specs.List.{list_any}
use Rattle.solo_transaction.specs.declared.origins.Origin.{Origin}
use Rattle.solo_transaction.specs.declared.origins.Origin.TheVariants as origin

-- an object that the call made and has is at the offset
pub record HasMadeAt (call : Call) (off : ℕ) : Type 0 where
  pub new : NewObject
  pub has : Contains call.made new
  pub place : off ≡ new.off

-- the call freed the object at the offset, or made it and freed it again
abbrev pub HasGoneAt : Call → ℕ → Type 0
HasGoneAt call off = (is_among call.freed off || list_any (is_at off) call.dropped) ≡ true

-- if there is one, the call found it and has it: it neither made nor freed it
pub record HasOldAt (call : Call) (off : ℕ) : Type 0 where
  pub found : (list_any (is_at off) call.made || list_any (is_at off) call.dropped) ≡ false
  pub kept : is_among call.freed off ≡ false

-- Which object the range of an id of a pool is of: one that the call found, or one that it made, in which it ends. Or else why it is refused: the object
-- is gone, the range passes the end of one that the call made, or the id is of another pool
abbrev pub Sorts : Call → ℕ → Oid → ℕ → ℕ → Result Origin Refusal → Type 0
Sorts call pool id off len (Ok origin.Found) = (id.pool ≡ pool) × HasOldAt call id.off
Sorts call pool id off len (Ok origin.Made) = (id.pool ≡ pool) × (t : HasMadeAt call id.off) × (off + len ≤ t.new.size)
Sorts call pool id off len (Err refusal.NoObject) = (id.pool ≡ pool) × HasGoneAt call id.off
Sorts call pool id off len (Err refusal.OutOfRange) = (id.pool ≡ pool) × (t : HasMadeAt call id.off) × (t.new.size < off + len)
Sorts call pool id off len (Err refusal.NotLocked) = id.pool ≢ pool
Sorts call pool id off len (Err r) = ⊥

-- Why an operation on a range is refused, by what the lane has: of an object that the call found as ever; since the object is gone; since the range passes the
-- end of one that the call made; or since the id is of another pool, of which no lock is held
abbrev pub IsRangeReason : View → Operation → Range → Refusal → Type 0
IsRangeReason v op range r =
    (IsOldIn v range.id.off × IsReason v op range r)
    ⊎ (((r ≡ refusal.NoObject) × IsGone v range.id (needs_write op))
    ⊎ (((r ≡ refusal.OutOfRange) × PassesNewEnd v range.id range.off range.len)
    ⊎ ((r ≡ refusal.NotLocked) × (range.id.pool ≢ v.pool))))

-- there was this reason to refuse the operation on the range, and so the call with these records was given up by it
pub record IsRefusedFor {M : Type 0} (at : M → View → Type 0) (lane : Lane M) (spans : List Span) (op : Operation) (range : Range) (r : Refusal) (w : View) : Type 0 where
  pub reason : IsRangeReason w op range r
  pub ended : IsEndedBy at lane w (gives_up spans op (Some (Refused r)) lane.last) op (Some (Refused r))

-- the lane stopped while it gave the call up, for a reason to refuse the operation on the range
pub record IsStoppedRefusing {M : Type 0} (at : M → View → Type 0) (lane : Lane M) (spans : List Span) (op : Operation) (range : Range) (w : View) : Type 0 where
  pub refusal : Refusal
  pub reason : IsRangeReason w op range refusal
  pub stopped : IsStoppedIn at lane w (gives_up spans op (Some (Refused refusal)) lane.last) op (Some (Refused refusal))

-- the lane stopped in the steps of the operation, which it could make, or while it gave the call up
abbrev pub IsStoppedAnywhere : {M : Type 0} → (M → View → Type 0) → Lane M → List Span → Operation → Range → (View → Type 0) → Sequence → View → Type 0
IsStoppedAnywhere at lane spans op range Can steps w = (Can w × IsStoppedIn at lane w steps op None) ⊎ IsStoppedRefusing at lane spans op range w
