-- A free of an object in a transaction (pmemobj_tx_free(3)): what it needs, and what it leaves, done, refused or stopped.
use Rattle.std.specs.Prelude.{◌≡◌, ◌≢◌, ◌⊎◌, ◌==◌, ◌&&◌, Bool, ℕ, ◌+◌, ◌≤◌, List, Some, None, slice_index}
use Rattle.solo_crash.specs.CallBlocks.{IsOldIn, TellsOfRoot}
use Rattle.solo_crash.specs.Operations.{FreesFound, FreesMade, IsFreeReason, IsMade, entries_so_far}
use Rattle.solo_crash.specs.Pending.{pending_in}
use Rattle.solo_crash.specs.Reserved.{root_in}
use Rattle.solo_lock.specs.Leading.{DrawEnded}
use Rattle.solo_made.specs.Made.{BlockLists}
use Rattle.solo_model.specs.Actions.{max_entries}
use Rattle.pm_objects.specs.declared.calls.Operation.TheVariants.{Free}
use Rattle.pm_objects.specs.declared.history.Value.TheVariants.{Refused}
use Rattle.pm_objects.specs.declared.ids.Oid.{Oid}
use Rattle.pm_objects.specs.declared.refusal.Refusal.{Refusal}
use Rattle.solo_tx.specs.Ending.{IsEndedBy, IsStoppedIn}
use Rattle.solo_tx.specs.Sequences.{gives_up}
use Rattle.solo_view.specs.Steps.Step.{Tell}
use Rattle.solo_view.specs.View.{View}
use Rattle.solo_view.specs.Views.{after}
use Rattle.solo_world.specs.Opening.{Opening}
use Rattle.solo_world.specs.Sequences.{Ready, one}
use Rattle.solo_world.specs.declared.lane.HeldLock.{HeldLock}
use Rattle.solo_world.specs.declared.lane.Lane.{Lane}
use Rattle.solo_world.specs.declared.lane.Span.{Span}
use Rattle.solo_transaction.specs.AtWork.{IsAtWorkWith, IsUnderLock}
use Rattle.solo_transaction.specs.declared.freeing.Owned.{Owned}
use Rattle.solo_transaction.specs.declared.freeing.Owned.TheVariants as owned

-- a lock is of the line, for writing
abbrev pub writes_line : ℕ → HeldLock → Bool
writes_line line l = l.line == line && l.write

-- the object is one that the call made, or one that it found and holds for writing, with a block of so many lines
abbrev pub IsOwned : View → Oid → Owned → Type 0
IsOwned v id owned.Made = IsMade v id
IsOwned v id (owned.Found lines) = (id.pool ≡ v.pool) × IsUnderLock v id.off lines × IsOldIn v id.off

-- how many lines its block has, where it was found
abbrev pub lines_of : Owned → ℕ
lines_of owned.Made = 0
lines_of (owned.Found lines) = lines

-- one that was found needs room in the log
abbrev pub HasRoomToFree : View → Owned → Type 0
HasRoomToFree v owned.Made = Unit {0}
HasRoomToFree v (owned.Found lines) = entries_so_far v + 2 ≤ max_entries

-- the lane may free the object: it is its own, not the root by the lane's words, and its log has room
pub record CanFree (v : View) (id : Oid) (owned : Owned) : Type 0 where
  pub own : IsOwned v id owned
  pub not_root : slice_index v.words 64 ≢ id.off
  pub room : HasRoomToFree v owned

-- from the view before the lane told that it freed the object, which it made or found, and is at work still. No number was drawn
pub record HasFreed {M : Type 0} (o : Opening) (at : M → View → Type 0) (lane : Lane M) (blocks : BlockLists) (v : View) (id : Oid) : Type 0 where
  pub ready : Ready v (one (Tell (Free id) None) v)
  pub draws : DrawEnded v (one (Tell (Free id) None) v)
  pub works : IsAtWorkWith o at lane blocks (after v (Tell (Free id) None))
  pub frees : FreesMade v (after v (Tell (Free id) None)) id ⊎ FreesFound v (after v (Tell (Free id) None)) id

-- there was this reason to refuse the free, to which the root agrees by the lane's words
pub record IsFreeRefused (v : View) (id : Oid) (r : Refusal) : Type 0 where
  pub reason : IsFreeReason v id r
  pub root : TellsOfRoot (root_in (slice_index v.words)) (Free id) (Some (Refused r)) (pending_in v)

-- and so the call with these records was given up by it
pub record IsFreeGivenUp {M : Type 0} (at : M → View → Type 0) (lane : Lane M) (spans : List Span) (id : Oid) (r : Refusal) (v : View) : Type 0 where
  pub why : IsFreeRefused v id r
  pub ended : IsEndedBy at lane v (gives_up spans (Free id) (Some (Refused r)) lane.last) (Free id) (Some (Refused r))

-- the lane stopped while it gave the call up for such a reason
pub record IsFreeStopped {M : Type 0} (at : M → View → Type 0) (lane : Lane M) (spans : List Span) (id : Oid) (v : View) : Type 0 where
  pub refusal : Refusal
  pub why : IsFreeRefused v id refusal
  pub stopped : IsStoppedIn at lane v (gives_up spans (Free id) (Some (Refused refusal)) lane.last) (Free id) (Some (Refused refusal))
