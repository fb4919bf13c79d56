-- WHAT A DIFFERENCE MAKES OF A HEAP: blocks come, blocks go, and the others stay where they are.
use Rattle.std.specs.Prelude.{◌≡◌, ◌⊎◌, ℕ, ◌+◌, ◌*◌, ◌<◌, true, false, Some}
use Rattle.pm_header.specs.declared.header.Header.{Header}
use Rattle.pm_layout.specs.Sizes.{blocks_of}
use Rattle.pm_layout.specs.declared.shape.Shape.{Shape}
use Rattle.pm_objects.specs.declared.pool.PoolView.{PoolView}
use Rattle.pm_image.specs.HeapFaults.{good_block}
use Rattle.pm_image.specs.Means.{pool_in}
use Rattle.pm_image.specs.Narrowings.{takes_links}
use Rattle.pm_view.specs.Entries.{turn}
use Rattle.pm_view.specs.Places.{Place, InRun, InHuge, Descr, RootWord, Block, Small, Big, Root}
use Rattle.pm_world.specs.BlockLines.{AllocatedHas}
use Rattle.pm_world.specs.Lanes.{is_occupancy}
use Rattle.pm_world.specs.States.{State, Diff, after_diff, given, over}
use Rattle.pm_crash.specs.Objects.{IsWhole, is_allocated, lines_of, offset_of}
use Rattle.pm_crash.specs.Spelled.{Holds, has_blocks, number, words_by}

-- word k of a block's header line
abbrev pub header_place : (ℕ → ℕ) → Block → ℕ → Place
header_place class (Small c i) k = InRun c (8 * (1 + class c * i) + k)
header_place class (Big f) k = InHuge f k
header_place class Root k = RootWord

-- the difference makes the block, or frees it
abbrev pub Makes : Diff → Block → Type 0
Makes d B = turn d B ≡ Some true

abbrev pub Frees : Diff → Block → Type 0
Frees d B = turn d B ≡ Some false

-- WHAT IS ASKED OF THE BLOCKS of a difference, from bits that hold a pool
pub record ChangesBlocks (sh : Shape) (class : ℕ → ℕ) (s : State) (d : Diff) : Type 0 where
  -- a block that is made is one of a run's, or chunks that nothing else is
  pub of_run : (c i : ℕ) → Makes d (Small c i) → i < blocks_of (class c)
  pub of_chunks : (f : ℕ) → Makes d (Big f)
      → (has_blocks (after_diff d s) f ≡ false) × IsWhole (after_diff d s) f
  -- and no line of it is an allocated block's
  pub apart : (B C : Block) (line : ℕ) → Makes d B
      → AllocatedHas sh (after_diff d s) (record { first = λ c. c; class = class }) B line
      → is_allocated sh s C ≡ true
      → AllocatedHas sh s (record { first = λ c. c; class = class }) C line → ⊥
  -- a run of which a block is freed is no huge block besides
  pub plain : (c i : ℕ) → Frees d (Small c i) → s (Descr c) 1 ≡ false

-- AND OF ITS WORDS
pub record ChangesHeap (sh : Shape) (class : ℕ → ℕ) (s : State) (d : Diff) : Type 0 where
  pub blocks : ChangesBlocks sh class s d
  -- the object of a block that is made has its size
  pub sized : (B : Block) → Makes d B → is_occupancy sh B ≡ true
      → (good_block (words_by sh class (after_diff d s)) (lines_of sh class (after_diff d s) B) ≡ true)
      × (takes_links (words_by sh class (after_diff d s)) (lines_of sh class (after_diff d s) B)
      ≡ true)
  -- a descriptor changes with its block alone
  pub descriptors : (f b : ℕ) → given (turn d (Big f)) ≡ false → given (d (Descr f) b) ≡ false
  -- blocks that stay keep their headers
  pub headers : (B : Block) (k b : ℕ) → is_allocated sh s B ≡ true → given (turn d B) ≡ false
      → k < 8 → given (d (header_place class B k) b) ≡ false
  -- the root is there
  pub root : (number (after_diff d s RootWord) ≡ 0)
      ⊎ ((B : Block) × (is_allocated sh (after_diff d s) B ≡ true)
      × (offset_of sh class (after_diff d s) B ≡ number (after_diff d s RootWord)))

-- THE BITS AFTER IT HOLD THEIR POOL; its blocks are those before, with those made and without those
-- freed; and the others lie where they did
abbrev pub ChangedHeapsHold : Type 0
ChangedHeapsHold = (sh : Shape) (class : ℕ → ℕ) (s : State) (d : Diff) (header : Header)
    (pool : PoolView) → Holds sh class s header pool → ChangesHeap sh class s d
    → Holds sh class (after_diff d s) header
    (pool_in (words_by sh class (after_diff d s)) sh.lanes sh.zones header)

abbrev pub BlocksChange : Type 0
BlocksChange = (sh : Shape) (class : ℕ → ℕ) (s : State) (d : Diff) (header : Header)
    (pool : PoolView) → Holds sh class s header pool → ChangesHeap sh class s d
    → (B : Block) → is_occupancy sh B ≡ true
    → is_allocated sh (after_diff d s) B ≡ over (turn d B) (is_allocated sh s B)

abbrev pub BlocksStay : Type 0
BlocksStay = (sh : Shape) (class : ℕ → ℕ) (s : State) (d : Diff) → ChangesHeap sh class s d
    → (B : Block) → given (turn d B) ≡ false
    → lines_of sh class (after_diff d s) B ≡ lines_of sh class s B
