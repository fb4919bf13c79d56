-- Which recovered words the meaning of an image reads: the root's, those that describe chunks, bitmaps of runs, and those of blocks. `w` and `v` give recovered words by their number.
use Rattle.std.specs.Prelude.{◌≡◌, ◌⊎◌, ℕ, ◌+◌, ◌*◌, ◌/◌, ◌<◌, ◌≤◌, List, None, Some, Contains}
use Rattle.pm_layout.specs.declared.class.Class.TheVariants.{Lines}
use Rattle.pm_header.specs.Pairs.{main_pair, copy_pair}
use Rattle.pm_header.specs.declared.header.Header.{Header}
use Rattle.pm_objects.specs.declared.pool.PoolView.{PoolView}
use Rattle.pm_image.specs.declared.block.Block.{Block}
use Rattle.pm_image.specs.declared.fault.ImageFault.{ImageFault}
use Rattle.pm_image.specs.Logs.{recovered_at}
use Rattle.pm_image.specs.Blocks.{descriptor_word, chunk_word, class_in, blocks, pool_words}
use Rattle.pm_image.specs.Contents.{kind_in, size_in, first_in, bytes_in, data_words}
use Rattle.pm_image.specs.LogFaults.{log_fault}
use Rattle.pm_image.specs.HeapFaults.{heap_fault}
use Rattle.pm_image.specs.Means.{HasShape, page, pool_in, IsMeaning, IsImageFault}

-- the word describes a chunk of so many zones
pub record IsDescriptorWord (lanes zones i : ℕ) : Type 0 where
  pub chunk : ℕ
  pub in_range : chunk < 64 * zones
  pub is_word : i ≡ descriptor_word lanes chunk

-- the word is the bitmap of a chunk that is a run
pub record IsBitmapWord (w : ℕ → ℕ) (lanes zones i : ℕ) : Type 0 where
  pub chunk : ℕ
  pub lines : ℕ
  pub in_range : chunk < 64 * zones
  pub is_run : class_in (w (descriptor_word lanes chunk)) ≡ Some (Lines lines)
  pub is_word : i ≡ chunk_word lanes chunk

-- the word is of the block's header line, or holds bytes of its object
pub record ReadsBlock (w : ℕ → ℕ) (block : Block) (i : ℕ) : Type 0 where
  pub from : block.place / 8 ≤ i
  pub to : i < block.place / 8 + 8 + data_words (size_in w block)

-- some block reads the word
pub record IsContentsWord (w : ℕ → ℕ) (lanes zones i : ℕ) : Type 0 where
  pub block : Block
  pub is_there : Contains (blocks w lanes zones) block
  pub is_read : ReadsBlock w block i

-- the meaning reads the word
abbrev pub Reads : (ℕ → ℕ) → ℕ → ℕ → ℕ → Type 0
Reads w lanes zones i = (i ≡ 64) ⊎ (IsDescriptorWord lanes zones i ⊎ (IsBitmapWord w lanes zones i ⊎ IsContentsWord w lanes zones i))

-- both have the same words where the fact holds
pub record AgreeOn (Read : ℕ → Type 0) (w v : ℕ → ℕ) : Type 0 where
  pub same : (i : ℕ) → Read i → w i ≡ v i

-- both have the same blocks and the same fault, and where there is none, the same pool under each header
pub record SameHeap (w v : ℕ → ℕ) (lanes zones : ℕ) : Type 0 where
  pub same_blocks : blocks v lanes zones ≡ blocks w lanes zones
  pub same_fault : heap_fault v lanes zones ≡ heap_fault w lanes zones
  pub same_pool : heap_fault w lanes zones ≡ None → (header : Header) → pool_in v lanes zones header ≡ pool_in w lanes zones header

-- both have the same object in the block, but for the members that its first one leads to
pub record SameContents (w v : ℕ → ℕ) (block : Block) : Type 0 where
  pub same_kind : kind_in v block ≡ kind_in w block
  pub same_size : size_in v block ≡ size_in w block
  pub same_bytes : bytes_in v block ≡ bytes_in w block
  pub same_first : first_in v block ≡ first_in w block

-- two images have the same shape and header pairs and no fault in their logs, and agree on what the first one's meaning reads
pub record AgreeInMeaning (one other : List ℕ) (lanes zones : ℕ) : Type 0 where
  pub shape : HasShape one lanes zones
  pub other_shape : HasShape other lanes zones
  pub main : main_pair (page other) ≡ main_pair (page one)
  pub copy : copy_pair (page other) ≡ copy_pair (page one)
  pub logs : log_fault one lanes zones ≡ None
  pub other_logs : log_fault other lanes zones ≡ None
  pub words : AgreeOn (Reads (recovered_at one lanes) lanes zones) (recovered_at one lanes) (recovered_at other lanes)

-- what the one image means or has for a fault, the other does
pub record MeansAsMuch (one other : List ℕ) : Type 0 where
  pub pools : (pool : PoolView) → IsMeaning one pool → IsMeaning other pool
  pub faults : (found : ImageFault) → IsImageFault one found → IsImageFault other found

-- the word is the root's, or stands in the zones
abbrev pub IsHeapWord : ℕ → ℕ → ℕ → Type 0
IsHeapWord lanes zones i = (i ≡ 64) ⊎ ((512 + 1024 * lanes ≤ i) × (i < pool_words lanes zones))
