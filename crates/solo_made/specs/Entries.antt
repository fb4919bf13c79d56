-- The redo entries of the blocks that a call allocates and frees, by the offsets of the objects in them and the lines of the blocks.
use Rattle.std.specs.Prelude.{◌≡◌, ◌⊎◌, ℕ, ◌+◌, ◌-◌, ◌*◌, ◌/◌, ◌%◌, ◌^◌, ◌<◌, ◌≤◌, nat_lt, if◌then◌else◌, List, ◌++◌, map}
use Rattle.pm_layout.specs.Sizes.{blocks_of, class_of, descriptor_of}
use Rattle.pm_layout.specs.declared.class.Class.{Class}
use Rattle.pm_layout.specs.declared.class.Class.TheVariants.{Chunks, Lines}
use Rattle.pm_record.specs.declared.redo.Op.TheVariants.{And, Or, Set}
use Rattle.pm_record.specs.declared.redo.Redo.{Redo}
use Rattle.solo_view.specs.Blocks.{descriptor_word}
use Rattle.pm_image.specs.declared.block.Block.{Block}
use Rattle.solo_crash.specs.CallBlocks.{block_of}
use Rattle.solo_crash.specs.HeapChanges.{HeapChange}
use Rattle.solo_crash.specs.HeapChanges.HeapChange.{AllocatesChunks, AllocatesInRun, FreesChunks, FreesInRun}
use Rattle.solo_crash.specs.NewObjects.{block_of_chunks, block_of_run}
use Rattle.solo_made.specs.declared.objects.Freed.{Freed}
use Rattle.solo_made.specs.declared.objects.Made.{Made}
use Rattle.solo_made.specs.Made.{BlockLists, new_of}

-- the block of an object that the call made, and of one that it found and freed
abbrev pub block_made : Made → Block
block_made m = block_of (new_of m)

abbrev pub block_freed : Freed → Block
block_freed f = record { place = f.off - 64; lines = f.lines }

-- the block is one of a run in a pool of this shape
pub record IsInRun (lanes zones : ℕ) (block : Block) : Type 0 where
  pub chunk : ℕ
  pub index : ℕ
  pub in_pool : chunk < 64 * zones
  pub inside : index < blocks_of block.lines
  pub is_block : block_of_run lanes chunk block.lines index ≡ block

-- the block is whole chunks of it
pub record IsOfChunks (lanes zones : ℕ) (block : Block) : Type 0 where
  pub chunk : ℕ
  pub chunks : ℕ
  pub in_pool : chunk < 64 * zones
  pub some : 1 ≤ chunks
  pub is_block : block_of_chunks lanes chunk chunks ≡ block

-- the pool has room for such a block
abbrev pub IsBlockIn : ℕ → ℕ → Block → Type 0
IsBlockIn lanes zones block = IsInRun lanes zones block ⊎ IsOfChunks lanes zones block

-- the page is a chunk of a pool of this shape
pub record IsChunkPage (lanes zones page : ℕ) : Type 0 where
  pub chunk : ℕ
  pub in_pool : chunk < 64 * zones
  pub is_page : page ≡ 2 + 2 * lanes + 65 * (chunk / 64) + chunk % 64

-- the page of 4096 bytes in which the block of the object at an offset begins, and the line of that page; the block's index where it is one of a run's
abbrev pub page_of : ℕ → ℕ
page_of off = (off - 64) / 4096

abbrev pub line_of : ℕ → ℕ
line_of off = (off - 64) / 64 % 64

abbrev pub index_of : ℕ → ℕ → ℕ
index_of off lines = (line_of off - 1) / lines

-- the entry that allocates the block of an object: an OR of its bit of the run's bitmap, which is its page's first word, or a SET of the chunk's descriptor
abbrev pub entry_of_class : ℕ → ℕ → Class → Redo
entry_of_class lanes off (Lines lines) = record { place = 4096 * page_of off; op = Or; value = 2 ^ index_of off lines }
entry_of_class lanes off (Chunks chunks) = record { place = 8 * descriptor_word lanes (page_of off); op = Set; value = descriptor_of (Chunks chunks) }

abbrev pub entry_making : ℕ → Made → Redo
entry_making lanes m = entry_of_class lanes m.off (class_of m.size)

-- and the one that frees it: an AND of all other bits, or a SET to 0
abbrev pub entry_freeing : ℕ → Freed → Redo
entry_freeing lanes f =
    if nat_lt f.lines 64
    then record { place = 4096 * page_of f.off; op = And; value = 2 ^ 64 - 1 - 2 ^ index_of f.off f.lines }
    else record { place = 8 * descriptor_word lanes (page_of f.off); op = Set; value = 0 }

-- all of a call's: first it frees what it found and freed, then it allocates what it made and has
abbrev pub entries_of : ℕ → BlockLists → List Redo
entries_of lanes b = map (entry_freeing lanes) b.freed ++ map (entry_making lanes) b.made

-- the change of the heap frees the object's block, and allocates that of an object that the call made
abbrev pub FreesBlockOf : ℕ → HeapChange → Freed → Type 0
FreesBlockOf lanes (FreesInRun chunk lines index) f = (index < blocks_of lines) × (block_of_run lanes chunk lines index ≡ block_freed f)
FreesBlockOf lanes (FreesChunks chunk chunks) f = block_of_chunks lanes chunk chunks ≡ block_freed f
FreesBlockOf lanes change f = ⊥

abbrev pub AllocatesBlockOf : ℕ → HeapChange → Made → Type 0
AllocatesBlockOf lanes (AllocatesInRun chunk lines index kind bytes) m = (index < blocks_of lines) × (block_of_run lanes chunk lines index ≡ block_made m)
AllocatesBlockOf lanes (AllocatesChunks chunk chunks kind bytes) m = block_of_chunks lanes chunk chunks ≡ block_made m
AllocatesBlockOf lanes change m = ⊥
