-- Blocks that a lane has reserved and keeps, and which bits of the occupancy words they have: docs/FORMAT.md, "Volatile words".
use Rattle.std.specs.Prelude.{◌≡◌, ◌≢◌, ◌⊎◌, ℕ, ◌+◌, ◌-◌, ◌*◌, ◌/◌, ◌%◌, ◌<◌, ◌≤◌, true, List, slice_index}
use Rattle.std.specs.List.{Any}
use Rattle.pm_layout.specs.Sizes.{descriptor_of}
use Rattle.pm_layout.specs.declared.class.Class.TheVariants.{Lines}
use Rattle.pm_image.specs.declared.block.Block.{Block}
use Rattle.pm_image.specs.Blocks.{descriptor_word}
use Rattle.solo_view.specs.declared.occ.Occ.{Occ}
use Rattle.solo_view.specs.declared.occ.Occ.TheVariants.{Run}
use Rattle.solo_view.specs.View.{View}
use Rattle.solo_view.specs.Views.{chunk_bit, reserves, zone_at}
use Rattle.solo_world.specs.Opening.{IsChunk}
use Rattle.solo_crash.specs.HeapChanges.{run_at}
use Rattle.solo_crash.specs.NewObjects.{block_of_chunks, block_of_run}
use Rattle.solo_crash.specs.Reserved.{IsUnusedChunk}

-- ---- its bits

-- the bit is of a block of a run: that of the run's chunk, by the lines before the block, behind the bitmap's line
abbrev pub IsRunBitOf : Block → Occ → ℕ → Type 0
IsRunBitOf block at bit = (block.lines % 64 ≢ 0) × (at ≡ Run (block.place / 4096 * 4096)) × (bit ≡ (block.place % 4096 / 64 - 1) / block.lines)

-- the bit is of one of the chunks that the block is
abbrev pub IsChunkBitOf : ℕ → Block → Occ → ℕ → Type 0
IsChunkBitOf lanes block at bit =
    let page = block.place / 4096 in
    (block.lines % 64 ≡ 0) × (at ≡ zone_at lanes page) × (chunk_bit lanes page ≤ bit) × (bit < chunk_bit lanes page + block.lines / 64)

-- the bit of an occupancy word is one of the block's
abbrev pub IsBitOf : ℕ → Block → Occ → ℕ → Type 0
IsBitOf lanes block at bit = IsRunBitOf block at bit ⊎ IsChunkBitOf lanes block at bit

-- it is one of some of these blocks
abbrev pub IsKeptBit : ℕ → List Block → Occ → ℕ → Type 0
IsKeptBit lanes kept at bit = Any (λ block. IsBitOf lanes block at bit) kept

-- Its bits can be told by its place and lines: a block of a run lies behind the bitmap's line, and whole chunks in one zone.
pub record IsOfHeap (lanes : ℕ) (block : Block) : Type 0 where
  pub behind : block.lines % 64 ≢ 0 → 1 ≤ block.place % 4096 / 64
  pub is_chunk : IsChunk lanes (block.place / 4096)
  pub in_zone : block.lines % 64 ≡ 0 → chunk_bit lanes (block.place / 4096) + block.lines / 64 ≤ 64

-- ---- that it is kept

-- the lane reserved the block in a run, whose descriptor its words have
pub record KeepsInRun (v : View) (block : Block) : Type 0 where
  pub chunk : ℕ
  pub lines : ℕ
  pub index : ℕ
  pub in_pool : chunk < 64 * v.zones
  pub low : index < 64
  pub described : slice_index v.words (descriptor_word v.lanes chunk) ≡ descriptor_of (Lines lines)
  pub reserved : reserves v (run_at v.lanes chunk) index ≡ true
  pub is_block : block ≡ block_of_run v.lanes chunk lines index

-- it reserved the chunks that the block is, each of which its words describe by 0
pub record KeepsChunks (v : View) (block : Block) : Type 0 where
  pub zone : ℕ
  pub first : ℕ
  pub count : ℕ
  pub in_pool : zone < v.zones
  pub low : first < 64
  pub fits : first + count ≤ 64
  pub unused : (j : ℕ) → j < count → IsUnusedChunk v.lanes v zone (first + j)
  pub is_block : block ≡ block_of_chunks v.lanes (64 * zone + first) count

-- the lane reserved the block, and has it still
abbrev pub Keeps : View → Block → Type 0
Keeps v block = KeepsInRun v block ⊎ KeepsChunks v block
