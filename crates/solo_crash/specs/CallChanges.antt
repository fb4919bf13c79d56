-- The changes of a pool's heap that a call publishes with its commit: each object that it found and freed loses its block, and each that it made gets one.
use Rattle.std.specs.Prelude.{◌≡◌, ℕ, List, ◌++◌, map, nat_eq, slice_index}
use Rattle.std.specs.List.{AllZip, IsDistinct}
use Rattle.pm_image.specs.declared.block.Block.{Block}
use Rattle.pm_image.specs.Contents.{bytes_in, offset_in}
use Rattle.solo_view.specs.View.{View}
use Rattle.solo_crash.specs.CallBlocks.{NewObject, block_of, blocks_in}
use Rattle.solo_crash.specs.HeapChanges.{HeapChange}
use Rattle.solo_crash.specs.HeapChanges.HeapChange.{AllocatesChunks, AllocatesInRun, FreesChunks, FreesInRun}
use Rattle.solo_crash.specs.NewObjects.{block_of_chunks, block_of_run}
use Rattle.solo_crash.specs.Pending.{published_in}
use Rattle.solo_crash.specs.Performing.{performed}

-- the bytes that a new object is published with: those of its block by the lane's words, with the call's actions performed
abbrev pub bytes_published : View → NewObject → List ℕ
bytes_published v n = bytes_in (performed (published_in v) (slice_index v.words)) (block_of n)

-- a block, a type and bytes are those of an object that the call made
pub record IsOfNew (v : View) (block : Block) (kind : ℕ) (bytes : List ℕ) (n : NewObject) : Type 0 where
  pub begins : offset_in block ≡ n.off
  pub of_kind : kind ≡ n.kind
  pub holds : bytes ≡ bytes_published v n

-- the change allocates that object's block, for it
abbrev pub AllocatesNew : View → ℕ → HeapChange → NewObject → Type 0
AllocatesNew v lanes (AllocatesInRun c lines index kind bytes) n = IsOfNew v (block_of_run lanes c lines index) kind bytes n
AllocatesNew v lanes (AllocatesChunks c chunks kind bytes) n = IsOfNew v (block_of_chunks lanes c chunks) kind bytes n
AllocatesNew v lanes change n = ⊥

-- the change frees the block of the object at the offset
abbrev pub FreesAt : ℕ → HeapChange → ℕ → Type 0
FreesAt lanes (FreesInRun c lines index) off = offset_in (block_of_run lanes c lines index) ≡ off
FreesAt lanes (FreesChunks c chunks) off = offset_in (block_of_chunks lanes c chunks) ≡ off
FreesAt lanes change off = ⊥

-- The changes are those of the call: first it frees what it found and freed, and then it allocates what it made, each in the order in which the call did.
-- What it made and freed again has no change, since its block was never published
pub record ChangesOf (v : View) (lanes : ℕ) (changes : List HeapChange) : Type 0 where
  pub freed : List HeapChange
  pub made : List HeapChange
  pub are : changes ≡ freed ++ made
  pub frees : AllZip (FreesAt lanes) freed (blocks_in v).freed
  pub allocates : AllZip (AllocatesNew v lanes) made (blocks_in v).made
  -- a pool has one object at an offset
  pub once : IsDistinct nat_eq (map (λ (n : NewObject). n.off) (blocks_in v).made)
