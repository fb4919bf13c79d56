-- What the lists of a call need where all that is pending is published: room, and a lock over each object that they list as freed.
use Rattle.std.specs.Prelude.{◌≡◌, ℕ, ◌≤◌, All, IsTrue, false, true, is_some, nat_eq, List, length, map}
use Rattle.std.specs.List.{IsDistinct, list_any}
use Rattle.solo_crash.specs.CallBlocks.{CallBlocks, is_at, with_all_freed}
use Rattle.solo_crash.specs.OpenCall.{lock_of}
use Rattle.solo_made.specs.declared.objects.Made.{Made}
use Rattle.solo_made.specs.Made.{BlockLists, ListsBlocks}
use Rattle.solo_model.specs.Transaction.{is_locked}
use Rattle.pm_objects.specs.declared.ids.Oid.{Oid}
use Rattle.solo_pending.specs.declared.pending.Reserved.{Reserved}
use Rattle.solo_world.specs.Lanes.{lock_of as view_lock}
use Rattle.solo_world.specs.declared.lane.HeldLock.{HeldLock}

-- what is reserved, as the list of what was made has it
abbrev pub made_of : Reserved → Made
made_of r = record { off = r.off; kind = r.kind; size = r.size }

-- a block was found under each of the locks
abbrev pub HaveBlocks : List HeldLock → Type 0
HaveBlocks locks = All (λ (l : HeldLock). IsTrue (is_some l.block)) locks

-- the object at the offset lies under one of these locks, for writing
abbrev pub IsUnderLockOf : List HeldLock → ℕ → Type 0
IsUnderLockOf locks off = is_locked (map lock_of (map view_lock locks)) off true ≡ true

-- the objects can be listed as freed, one after another: each is named once, one that the call did not make lies under a lock, and the list has room for it
pub record CanListFreed (locks : List HeldLock) (blocks : BlockLists) (call : CallBlocks) (ids : List Oid) : Type 0 where
  pub lists : ListsBlocks blocks call
  pub once : IsDistinct nat_eq (map (λ (id : Oid). id.off) ids)
  pub found : HaveBlocks locks
  pub locked : All (λ (id : Oid). list_any (is_at id.off) call.made ≡ false → IsUnderLockOf locks id.off) ids
  pub few : length (with_all_freed ids call).freed ≤ 63
