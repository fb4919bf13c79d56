-- What a call finds missing: an object of the pool for each thing that it wants.
use Rattle.std.specs.Prelude.{◌≡◌, ◌⊎◌, ℕ, ◌+◌, ◌*◌, ◌/◌, ◌<◌, false, Contains, List, None, Some, IfSome, map, slice_index}
use Rattle.std.specs.Option.{ForSome}
use Rattle.solo_crash.specs.Operations.{is_placed}
use Rattle.pm_objects.specs.declared.calls.Want.{Want}
use Rattle.solo_view.specs.Blocks.{block_at}
use Rattle.solo_view.specs.View.{View, Lock}
use Rattle.solo_world.specs.declared.lane.HeldLock.{HeldLock}

-- by the view's words the object at the line, with the 64 bytes before it, passes the end of the block that begins there
pub record PassesBlock (v : View) (line : ℕ) : Type 0 where
  pub lines : ℕ
  pub block : block_at v.lanes v.words line ≡ Some lines
  pub past : 64 * lines < 64 + slice_index v.words (8 * line + 1)

-- by the view's words no block begins at the line, or none that has room for the object there
abbrev pub HasNoObject : View → ℕ → Type 0
HasNoObject v line = (block_at v.lanes v.words line ≡ None) ⊎ PassesBlock v line

-- what is wanted is behind the header at this line, where no object is
pub record IsOfNoObject (v : View) (want : Want) : Type 0 where
  pub line : ℕ
  pub place : want.id.off ≡ 64 * line + 64
  pub none : HasNoObject v line

-- what is wanted has no object: its id has not the form of one in the view's pool, or by the view's words none is there
abbrev pub LacksObject : View → Want → Type 0
LacksObject v want = (is_placed v want ≡ false) ⊎ IsOfNoObject v want

-- the lane holds the lock of a line where no object is
pub record HoldsNoObject (v : View) : Type 0 where
  pub lock : Lock
  pub held : Contains v.locks lock
  pub none : HasNoObject v lock.line

-- under a lock of the lane no block was found, or one that the object there passes
pub record HasUnfit (v : View) : Type 0 where
  pub lock : Lock
  pub held : Contains v.locks lock
  pub past : ForSome lock.block (λ lines. 64 * lines < 64 + slice_index v.words (8 * lock.line + 1))

-- the block that was found under a lock is the one that the view's words have at its line; or there they have none of any lines
abbrev pub IsMarked : View → Lock → Type 0
IsMarked v l = (l.block ≡ block_at v.lanes v.words l.line) ⊎ IfSome (block_at v.lanes v.words l.line) (λ lines. lines ≡ 0)

-- so is each lock of a line in the page
abbrev pub IsPageMarked : View → ℕ → Type 0
IsPageMarked v page = (l : Lock) → Contains v.locks l → l.line / 64 ≡ page → IsMarked v l

-- the pages of the locks' lines
abbrev pub pages_of : List HeldLock → List ℕ
pages_of locks = map (λ (l : HeldLock). l.line / 64) locks
