-- What a lane reserved, and how that and its words bear out what its open call told of the heap.
use Rattle.std.specs.Prelude.{◌≡◌, ◌⊎◌, ℕ, ◌+◌, ◌*◌, ◌<◌, ◌≤◌, ◌==◌, ◌++◌, All, slice_index, true, Option, None, Some, if◌then◌else◌}
use Rattle.pm_layout.specs.Sizes.{descriptor_of}
use Rattle.pm_layout.specs.declared.class.Class.TheVariants.{Lines}
use Rattle.pm_image.specs.declared.block.Block.{Block}
use Rattle.pm_image.specs.Blocks.{descriptor_word}
use Rattle.solo_view.specs.declared.occ.Occ.TheVariants.{Zone}
use Rattle.solo_view.specs.View.{View}
use Rattle.solo_view.specs.Views.{reserves}
use Rattle.solo_crash.specs.CallBlocks.{AgreesOnRoot, NewObject, allocated_in, block_of, blocks_in, reserved_in}
use Rattle.solo_crash.specs.HeapChanges.{AreDisjoint, run_at}
use Rattle.solo_crash.specs.Lying.{Lies}
use Rattle.solo_crash.specs.NewObjects.{block_of_chunks, block_of_run}

-- the lane reserved the chunk of a zone, 0 for the first, and its words describe it by 0
pub record IsUnusedChunk (lanes : ℕ) (v : View) (zone chunk : ℕ) : Type 0 where
  pub reserved : reserves v (Zone zone) chunk ≡ true
  pub undescribed : slice_index v.words (descriptor_word lanes (64 * zone + chunk)) ≡ 0

-- the object's block is one of a run, and the lane reserved it there
pub record IsReservedInRun (v : View) (n : NewObject) : Type 0 where
  pub chunk : ℕ
  pub lines : ℕ
  pub index : ℕ
  pub in_pool : chunk < 64 * v.zones
  pub low : index < 64
  pub described : slice_index v.words (descriptor_word v.lanes chunk) ≡ descriptor_of (Lines lines)
  pub reserved : reserves v (run_at v.lanes chunk) index ≡ true
  pub is_block : block_of n ≡ block_of_run v.lanes chunk lines index

-- it is whole chunks of a zone, which the lane reserved, and each of which its words describe by 0
pub record IsReservedInChunks (v : View) (n : NewObject) : Type 0 where
  pub zone : ℕ
  pub first : ℕ
  pub count : ℕ
  pub in_pool : zone < v.zones
  pub low : first < 64
  pub fits : first + count ≤ 64
  pub unused : (j : ℕ) → j < count → IsUnusedChunk v.lanes v zone (first + j)
  pub is_block : block_of n ≡ block_of_chunks v.lanes (64 * zone + first) count

-- the object's block lies in what the lane reserved
abbrev pub IsReservedFor : View → NewObject → Type 0
IsReservedFor v n = IsReservedInRun v n ⊎ IsReservedInChunks v n

-- the pool's root by its words: none where their root word is 0
abbrev pub root_in : (ℕ → ℕ) → Option ℕ
root_in w = if w 64 == 0 then None else Some (w 64)

-- the object's block overlaps none of the blocks that the lane's words have
abbrev pub LiesFree : View → NewObject → Type 0
LiesFree v n = (b : Block) → Lies (slice_index v.words) v.lanes v.zones b → AreDisjoint (block_of n) b

-- What the lane has bears out what its call told of the heap. What the call made, whether it has that or freed it again, lies in blocks that the lane reserved, and so
-- does what is pending to be made. All that the call allocated lies in room that the words have free, whether the lane has that reserved still or gave it back. And
-- each free agrees with the root that the words have.
pub record IsBorneOut (v : View) : Type 0 where
  pub made : All (IsReservedFor v) ((blocks_in v).made ++ (blocks_in v).dropped)
  pub pending : All (IsReservedFor v) (reserved_in v)
  pub free : All (LiesFree v) (allocated_in v)
  pub root : AgreesOnRoot v (root_in (slice_index v.words))
