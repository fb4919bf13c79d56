-- WHICH OBJECTS A LANE HOLDS, by its list of locks and by its claims; and what it looks at under these locks.
use Rattle.std.specs.Prelude.{◌≡◌, ◌≢◌, ◌⊎◌, ℕ, zero, suc, ◌+◌, ◌-◌, ◌/◌, ◌%◌, ◌^◌, ◌<◌, ◌≤◌, nat_le, Bool, true, ◌==◌, ◌&&◌, ◌||◌, not, List, []}
use Rattle.std.specs.List.{AllByRecursion, list_any}
use Rattle.pm_layout.specs.Chunks.{words_of}
use Rattle.pm_layout.specs.declared.shape.Shape.{Shape}
use Rattle.pm_view.specs.Claims.{Claim, class, header_in, holds, locked}
use Rattle.pm_view.specs.Founds.{FindsKnown}
use Rattle.pm_view.specs.Places.{Block, Small, word_of}
use Rattle.pm_view.specs.Steps.Step.{Load}
use Rattle.pm_view.specs.View.{View}
use Rattle.pm_view.specs.Views.{after}
use Rattle.pm_world.specs.InWorld.{block_bytes}
use Rattle.pm_world.specs.Lanes.{is_occupancy}
use Rattle.pm_world.specs.declared.lane.HeldLock.{HeldLock}
use Rattle.pm_crash.specs.Footprints.{has_found, has_own}
use Rattle.pm_crash.specs.Looked.{word_place, words_in}
use Rattle.pm_lock.specs.Held.{HoldsEach}
use Rattle.pm_lock.specs.Holding.{AreOnce}
use Rattle.pm_lock.specs.Wants.{is_listed}

-- ---- the list of locks

-- the line of the lock of an object at an offset: that of its block's header; line 0 has no object
abbrev pub line_of : ℕ → ℕ
line_of off = off / 64 - 1

abbrev pub has_line : ℕ → Bool
has_line off = off % 64 == 0 && nat_le 128 off

-- the lock of the object at an offset is in the list, for writing if so asked
abbrev pub is_in_locks : List HeldLock → ℕ → Bool → Bool
is_in_locks locks off write =
    has_line off && list_any (λ (l : HeldLock). l.line == line_of off && (l.write || not write)) locks

-- ---- the claims

-- the lane found an allocated block whose header is at this line
pub record HasObject (v : View) (line : ℕ) : Type 0 where
  pub block : Block
  pub found : has_found v block ≡ true
  pub at : header_in v.fixed.shape v.claims block ≡ line
  pub inside : is_occupancy v.fixed.shape block ≡ true

-- a lock of the list is held, and for writing where the list says so; it may be held for writing where the list says for reading, once it was raised for an operation that was refused
abbrev pub IsHeldFor : List Claim → HeldLock → Type 0
IsHeldFor t l = (l.write ≡ true → locked t l.line ≡ true) × (holds t l.line ≡ true)

-- EACH LOCK IS HELD, and under it an object was found; under that of line 0, which is the root word's, none
pub record IsHeld (v : View) (l : HeldLock) : Type 0 where
  pub held : IsHeldFor v.claims l
  pub object : (l.line ≡ 0) ⊎ HasObject v l.line

abbrev pub AreHeld : View → List HeldLock → Type 0
AreHeld v locks = AllByRecursion (IsHeld v) locks

-- ALL LOCKS THAT THE LANE HOLDS are these, each of a line of the pool, no two of one line
pub record HoldsAll (v : View) (locks : List HeldLock) : Type 0 where
  pub each : HoldsEach v locks
  pub only : (line : ℕ) → holds v.claims line ≡ true → is_listed locks [] line ≡ true

-- blocks of its own are of runs that it knows
abbrev pub KnowsOwn : View → Type 0
KnowsOwn v = (c i : ℕ) → has_own v (Small c i) ≡ true → class v.claims c ≢ 0

-- they are of lines of the pool, no two of one line
pub record AreLines (sh : Shape) (locks : List HeldLock) : Type 0 where
  pub once : AreOnce locks
  pub inside : AllByRecursion (λ (l : HeldLock). l.line < words_of sh / 8) locks

-- ---- the words of an object

-- word k of a block that the lane found: its size, or a word of its data
pub record IsObjectWord (v : View) (B : Block) (k : ℕ) : Type 0 where
  pub found : has_found v B ≡ true
  pub inside : is_occupancy v.fixed.shape B ≡ true
  pub within : k < words_in v B
  pub kind : (k ≡ 1) ⊎ (8 ≤ k)

-- A LOOK at such a word: what is found is what the lane knows of it, where it knows it; and a size fits the block
pub record LooksAt (v next : View) : Type 0 where
  pub block : Block
  pub index : ℕ
  pub word : IsObjectWord v block index
  pub value : ℕ
  pub small : value < 2 ^ 64
  pub agrees : FindsKnown v (word_of v.fixed.shape (word_place v block index)) value
  pub fits : index ≡ 1 → 64 + value ≤ block_bytes v block
  pub then : next ≡ after v (Load (word_of v.fixed.shape (word_place v block index)) value)

-- so many looks
unfoldable pub Looks : ℕ → View → View → Type 0
Looks zero v next = next ≡ v
Looks (suc n) v next = (u : View) × LooksAt v u × Looks n u next
