-- WHAT BITS HOLD, BLOCK BY BLOCK: where an allocated block lies, what stands in it, and when no block,
-- no chunk and no root is at fault. With these a pool is told offset by offset.
use Rattle.std.specs.Prelude.{◌≡◌, ◌⊎◌, ℕ, ◌+◌, ◌*◌, ◌%◌, ◌<◌, ◌≤◌, ◌&&◌, not, Bool, true, false, [], Some, None}
use Rattle.pm_header.specs.declared.header.Header.{Header}
use Rattle.pm_layout.specs.Chunks.{chunks_of}
use Rattle.pm_layout.specs.Sizes.{block_place, blocks_of}
use Rattle.pm_layout.specs.declared.shape.Shape.{Shape}
use Rattle.pm_objects.specs.declared.pool.PoolView.{PoolView}
use Rattle.pm_image.specs.declared.block.Block.{Block as Lines}
use Rattle.pm_image.specs.Blocks.{chunk_word}
use Rattle.pm_image.specs.Contents.{bytes_in, kind_in, offset_in}
use Rattle.pm_image.specs.HeapFaults.{good_block}
use Rattle.pm_image.specs.Means.{pool_in}
use Rattle.pm_image.specs.Narrowings.{takes_links}
use Rattle.pm_model.specs.Items.{Item, plain_pool}
use Rattle.pm_view.specs.Places.{InRun, Descr, RootWord, Block, Small, Big, Root}
use Rattle.pm_world.specs.Lanes.{is_occupancy}
use Rattle.pm_world.specs.States.{State, there, val}
use Rattle.pm_crash.specs.Freshness.{root_told}
use Rattle.pm_crash.specs.Spelled.{Holds, has_blocks, number, words_by}

-- a huge block's first chunk is no run
abbrev pub is_plain : State → Block → Bool
is_plain s (Small c i) = true
is_plain s (Big f) = not (has_blocks s f)
is_plain s Root = false

-- the block is allocated: one of a run of the pool, or whole chunks
abbrev pub is_allocated : Shape → State → Block → Bool
is_allocated sh s B = is_occupancy sh B && (is_plain s B && there s B)

-- where it lies
abbrev pub lines_of : Shape → (ℕ → ℕ) → State → Block → Lines
lines_of sh class s (Small c i) =
    record { place = block_place (8 * chunk_word sh.lanes c) (class c) i; lines = class c }
lines_of sh class s (Big f) =
    record { place = 8 * chunk_word sh.lanes f; lines = 64 * val (s (Descr f)) 8 56 }
lines_of sh class s Root = record { place = 0; lines = 0 }

-- the offset of the object in it
abbrev pub offset_of : Shape → (ℕ → ℕ) → State → Block → ℕ
offset_of sh class s B = offset_in (lines_of sh class s B)

-- the object in a block, as an item of the model: it is in no list, and has none
abbrev pub item_in : (ℕ → ℕ) → Lines → Item
item_in w block =
    record { kind = kind_in w block; bytes = bytes_in w block; members = []; list = None }

abbrev pub item_of : Shape → (ℕ → ℕ) → State → Block → Item
item_of sh class s B = item_in (words_by sh class s) (lines_of sh class s B)

-- ---- A POOL IS TOLD BY ITS BLOCKS

-- in each allocated block stands its object
abbrev pub BlocksHaveItems : Type 0
BlocksHaveItems = (sh : Shape) (class : ℕ → ℕ) (s : State) (header : Header) (pool : PoolView)
    → Holds sh class s header pool → (B : Block) → is_allocated sh s B ≡ true
    → (plain_pool pool).items (offset_of sh class s B) ≡ Some (item_of sh class s B)

-- an item stands in a block
pub record StandsIn (sh : Shape) (class : ℕ → ℕ) (s : State) (off : ℕ) (item : Item) : Type 0 where
  pub block : Block
  pub allocated : is_allocated sh s block ≡ true
  pub at : off ≡ offset_of sh class s block
  pub is : item ≡ item_of sh class s block

abbrev pub ItemsHaveBlocks : Type 0
ItemsHaveBlocks = (sh : Shape) (class : ℕ → ℕ) (s : State) (header : Header) (pool : PoolView)
    → Holds sh class s header pool → (off : ℕ) (item : Item)
    → (plain_pool pool).items off ≡ Some item → StandsIn sh class s off item

abbrev pub RootIsTold : Type 0
RootIsTold = (sh : Shape) (class : ℕ → ℕ) (s : State) (header : Header) (pool : PoolView)
    → Holds sh class s header pool → (plain_pool pool).root ≡ root_told (number (s RootWord))

-- an offset is that of one block alone
abbrev pub OffsetsTellBlocks : Type 0
OffsetsTellBlocks = (sh : Shape) (class : ℕ → ℕ) (s : State) (header : Header) (pool : PoolView)
    → Holds sh class s header pool → (B C : Block)
    → is_allocated sh s B ≡ true → is_allocated sh s C ≡ true
    → offset_of sh class s B ≡ offset_of sh class s C → B ≡ C

-- ---- BITS WITHOUT A FAULT

-- the descriptor is that of the first of some chunks of a zone; the others have no blocks
pub record IsWhole (s : State) (f : ℕ) : Type 0 where
  pub low : number (s (Descr f)) % 256 ≡ 2
  pub some : 1 ≤ val (s (Descr f)) 8 56
  pub in_zone : f % 64 + val (s (Descr f)) 8 56 ≤ 64
  pub rest : (c : ℕ) → f < c → c < f + val (s (Descr f)) 8 56
      → (has_blocks s c ≡ false) × (s (Descr c) 1 ≡ false)

pub record IsGoodHeap (sh : Shape) (class : ℕ → ℕ) (s : State) : Type 0 where
  pub runs : (c i : ℕ) → c < chunks_of sh → i < 64 → s (InRun c 0) i ≡ true
      → i < blocks_of (class c)
  pub whole : (f : ℕ) → f < chunks_of sh → has_blocks s f ≡ false → s (Descr f) 1 ≡ true
      → IsWhole s f
  pub blocks : (B : Block) → is_allocated sh s B ≡ true
      → (good_block (words_by sh class s) (lines_of sh class s B) ≡ true)
      × (takes_links (words_by sh class s) (lines_of sh class s B) ≡ true)
  pub root : (number (s RootWord) ≡ 0)
      ⊎ ((B : Block) × (is_allocated sh s B ≡ true)
      × (offset_of sh class s B ≡ number (s RootWord)))

-- BITS WITHOUT A FAULT HOLD THEIR POOL, and only these do
abbrev pub GoodHeapsHold : Type 0
GoodHeapsHold = (sh : Shape) (class : ℕ → ℕ) (s : State) (header : Header) → IsGoodHeap sh class s
    → Holds sh class s header (pool_in (words_by sh class s) sh.lanes sh.zones header)

abbrev pub HeldHeapsAreGood : Type 0
HeldHeapsAreGood = (sh : Shape) (class : ℕ → ℕ) (s : State) (header : Header) (pool : PoolView)
    → Holds sh class s header pool → IsGoodHeap sh class s
