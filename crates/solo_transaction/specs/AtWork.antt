-- How a lane stands between two operations of a transaction that may make and free objects: docs/MODEL.md, "Transactions that make objects".
use Rattle.std.specs.Prelude.{◌≡◌, ◌⊎◌, ℕ, ◌+◌, ◌*◌, ◌/◌, ◌%◌, ◌<◌, true, false, All, Contains, List, [], Some, length, slice_index}
use Rattle.pm_image.specs.Blocks.{descriptor_word}
use Rattle.pm_layout.specs.Sizes.{blocks_of}
use Rattle.solo_crash.specs.CallBlocks.{NewObject, blocks_in, reserved_in}
use Rattle.solo_crash.specs.Reserved.{IsBorneOut, LiesFree, IsReservedInChunks, IsReservedInRun}
use Rattle.solo_crash.specs.Reserving.{HasReserved}
use Rattle.solo_made.specs.Made.{BlockLists, ListsBlocks}
use Rattle.solo_made.specs.declared.objects.Freed.{Freed}
use Rattle.solo_tx.specs.AtWork.{IsAtWork}
use Rattle.solo_tx.specs.Learning.{Looks}
use Rattle.solo_view.specs.declared.occ.Occ.TheVariants.{Zone}
use Rattle.solo_view.specs.Blocks.{is_run}
use Rattle.solo_view.specs.Founds.{IsAlone}
use Rattle.solo_view.specs.View.{Lock, View}
use Rattle.solo_view.specs.Views.{reserves}
use Rattle.solo_world.specs.Opening.{Opening}
use Rattle.solo_world.specs.declared.lane.HeldLock.{HeldLock}
use Rattle.solo_world.specs.declared.lane.Lane.{Lane}

-- the object lies under a lock that the lane holds for writing, and its block has so many lines
pub record IsUnderLock (v : View) (off lines : ℕ) : Type 0 where
  pub lock : Lock
  pub held : Contains v.locks lock
  pub write : lock.write ≡ true
  pub block : lock.block ≡ Some lines
  pub place : off ≡ 64 * lock.line + 64

-- one of the locks is for writing, of the line before the offset, and under it was found a block of so many lines
pub record HasBlock (locks : List HeldLock) (off lines : ℕ) : Type 0 where
  pub lock : HeldLock
  pub held : Contains locks lock
  pub write : lock.write ≡ true
  pub block : lock.block ≡ Some lines
  pub place : off ≡ 64 * lock.line + 64

-- the locks hold an object that is listed as freed
abbrev pub IsHeldFreed : List HeldLock → Freed → Type 0
IsHeldFreed locks f = HasBlock locks f.off f.lines

-- the object's block lies whole in what the lane reserved: it is one of a run's blocks, or whole chunks
abbrev pub LiesInReserved : View → NewObject → Type 0
LiesInReserved v n = ((run : IsReservedInRun v n) × (run.index < blocks_of run.lines)) ⊎ IsReservedInChunks v n

-- the set of lines of what was dropped has a word for each page of the pool
abbrev pub AreForPool : BlockLists → View → Type 0
AreForPool blocks v = length blocks.dropped ≡ 1 + 2 * v.lanes + 65 * v.zones

-- the lane is not in the midst of making an object: it holds no zone's lock, and no chunk of the pool that it reserved is a run
pub record IsNotMaking (v : View) : Type 0 where
  pub unlocked : v.zone_locks ≡ []
  pub no_run : (c : ℕ) → c < 64 * v.zones → reserves v (Zone (c / 64)) (c % 64) ≡ true → is_run (slice_index v.words (descriptor_word v.lanes c)) ≡ false

-- The lane has a transaction at work, and these lists of what that made and freed; it is alone and makes no object now, and what it has bears out what the call told of the
-- heap.
pub record IsAtWorkWith {M : Type 0} (o : Opening) (at : M → View → Type 0) (lane : Lane M) (blocks : BlockLists) (v : View) : Type 0 where
  pub work : IsAtWork o at lane v
  pub lists : ListsBlocks blocks (blocks_in v)
  pub pages : AreForPool blocks v
  pub alone : IsAlone v
  pub not_making : IsNotMaking v
  pub borne_out : IsBorneOut v
  -- what it found and freed it holds for writing still
  pub freed_held : All (IsHeldFreed lane.locks.items) blocks.freed
  -- the block of what it made lies whole in what it reserved, which bearing out does not ask: so it may store the block's words
  pub within : (n : NewObject) → Contains (blocks_in v).made n → LiesInReserved v n
  -- and so does what is reserved and pending, which stands in its words
  pub has_reserved : HasReserved v
  pub reserved_within : All (LiesInReserved v) (reserved_in v)
  -- its block overlaps none of those that the lane's words have
  pub reserved_free : All (LiesFree v) (reserved_in v)

-- the lane is, whatever it was opened with, as some view
abbrev pub IsLaneAtWorkWith : {M : Type 0} → (M → View → Type 0) → Lane M → BlockLists → Type 0
IsLaneAtWorkWith at lane blocks = (o : Opening) × ((v : View) × IsAtWorkWith o at lane blocks v)

-- from the view before, the lane looked at some words at most, is at work still with these lists, and this holds of its view
pub record HasLookedWith {M : Type 0} (o : Opening) (at : M → View → Type 0) (lane : Lane M) (blocks : BlockLists) (v : View) (Q : View → Type 0) : Type 0 where
  pub loads : ℕ
  pub view : View
  pub looks : Looks loads v view
  pub works : IsAtWorkWith o at lane blocks view
  pub holds : Q view
