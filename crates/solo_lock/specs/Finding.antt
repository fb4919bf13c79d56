-- Which objects a call finds under its locks.
use Rattle.std.specs.List.{AllByRecursion}
use Rattle.std.specs.Prelude.{◌≡◌, ℕ, ◌+◌, ◌*◌, ◌/◌, ◌%◌, ◌<◌, ◌≤◌, ◌==◌, ◌&&◌, Bool, true, false, if◌then◌else◌, Contains, List, length, map, Option, None, Some, slice_index}
use Rattle.solo_crash.specs.OpenCall.{locks_of}
use Rattle.solo_view.specs.Blocks.{block_at, has_block, is_huge, is_run}
use Rattle.solo_view.specs.Steps.{Step}
use Rattle.solo_view.specs.View.{View, Lock}
use Rattle.solo_world.specs.Lanes.{lock_of}
use Rattle.solo_world.specs.declared.lane.HeldLock.{HeldLock}
use Rattle.solo_world.specs.declared.lane.Lane.{Lane}
use Rattle.solo_lock.specs.Begun.{IsBegun}
use Rattle.solo_lock.specs.Lacking.{HasUnfit, HoldsNoObject, IsPageMarked}
use Rattle.solo_lock.specs.Leading.{IsLed}
use Rattle.solo_lock.specs.Plans.{IsChunkLine, Rises}

-- under the lock it found a block, and it knows the size of the object there, which ends in the block
pub record FindsObject (v : View) (l : Lock) : Type 0 where
  pub lines : ℕ
  pub block : l.block ≡ Some lines
  pub known : Contains v.known (8 * l.line + 1)
  pub fits : 64 + slice_index v.words (8 * l.line + 1) ≤ 64 * lines

abbrev pub FindsObjects : View → Type 0
FindsObjects v = (l : Lock) → Contains v.locks l → FindsObject v l

-- the lines of the block that begins at a line of a chunk, by the chunk's descriptor and, for a run, its bitmap
abbrev pub block_in : ℕ → ℕ → ℕ → Option ℕ
block_in descriptor bitmap line =
    if is_run descriptor && has_block bitmap (descriptor / 256) line then Some (descriptor / 256) else
    if is_huge descriptor && line == 0 then Some (64 * (descriptor / 256)) else None

-- a lock of a line of this page, with what begins there
abbrev pub marked : ℕ → ℕ → ℕ → HeldLock → HeldLock
marked page descriptor bitmap l = if l.line / 64 == page then record l { block = block_in descriptor bitmap (l.line % 64) } else l

-- the call goes on with the same locks, and noted under those of these pages which blocks begin there
pub record HasLooked {M : Type 0} (at : M → View → Type 0) (lane : Lane M) (v : View) (pages : List ℕ) : Type 0 where
  pub view : View
  pub led : IsLed v view
  pub begun : IsBegun at lane view
  pub lines : map (λ (l : Lock). l.line) view.locks ≡ map (λ (l : Lock). l.line) v.locks
  pub locks : locks_of view ≡ locks_of v
  pub entries : view.entries ≡ v.entries
  pub marked : (page : ℕ) → Contains pages page → IsPageMarked view page
  pub keeps : (page : ℕ) → IsPageMarked v page → IsPageMarked view page

-- these locks are the view's, of rising lines of chunks in the pool
pub record IsHeldBy (v : View) (locks : List HeldLock) : Type 0 where
  pub held : map lock_of locks ≡ v.locks
  pub rises : Rises locks
  pub chunks : AllByRecursion (IsChunkLine v.lanes v.zones) locks
  pub size : length v.words ≡ 512 + 1024 * v.lanes + 33280 * v.zones
  pub lanes_few : v.lanes ≤ 32
  pub zones_few : v.zones ≤ 32

-- from the one view to the other words behind the lanes' areas were looked at, whatever was found in them
pub record OnlyLooks (v w : View) : Type 0 where
  pub led : IsLed v w
  pub same : w ≡ record v { words = w.words; known = w.known; seen = w.seen; locks = w.locks }
  pub front : (u : ℕ) → u < 512 * (1 + 2 * v.lanes) → slice_index w.words u ≡ slice_index v.words u
  pub remembers : (s : Step) → Contains v.seen s → Contains w.seen s

-- under each lock is an object that fits into its block, and its size is known; or under one there is none. Which blocks there are stays
pub record KnowsObjects (at : View → Type 0) (v : View) (all : Bool) : Type 0 where
  pub view : View
  pub looks : OnlyLooks v view
  pub there : at view
  pub locks : view.locks ≡ v.locks
  pub blocks : (line : ℕ) → block_at view.lanes view.words line ≡ block_at v.lanes v.words line
  pub objects : all ≡ true → FindsObjects view
  pub unfit : all ≡ false → HasUnfit view

-- the view's locks are of the plan's lines
abbrev pub HasLines : View → List HeldLock → Type 0
HasLines v plan = map (λ (l : Lock). l.line) v.locks ≡ map (λ (l : HeldLock). l.line) plan

-- the call goes on with the same locks, and under each it found an object, or under one there is none
pub record HasFound {M : Type 0} (at : M → View → Type 0) (lane : Lane M) (v : View) (all : Bool) : Type 0 where
  pub view : View
  pub led : IsLed v view
  pub begun : IsBegun at lane view
  pub locks : locks_of view ≡ locks_of v
  pub entries : view.entries ≡ v.entries
  pub objects : all ≡ true → FindsObjects view
  pub none : all ≡ false → HoldsNoObject view
