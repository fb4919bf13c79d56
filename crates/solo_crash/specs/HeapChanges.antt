-- Changes of a pool's heap that one redo entry each makes: a block is allocated, in which a new object stands already, or a block is freed.
use Rattle.std.specs.Prelude.{◌≡◌, ◌⊎◌, ℕ, ◌+◌, ◌-◌, ◌*◌, ◌/◌, ◌%◌, ◌^◌, ◌≤◌, List, [], ◌∷◌}
use Rattle.pm_layout.specs.Sizes.{descriptor_of}
use Rattle.pm_layout.specs.declared.class.Class.TheVariants.{Chunks}
use Rattle.pm_objects.specs.declared.pool.PoolView.{PoolView}
use Rattle.pm_image.specs.declared.block.Block.{Block}
use Rattle.pm_image.specs.Blocks.{chunk_word, descriptor_word}
use Rattle.pm_image.specs.Contents.{offset_in}
use Rattle.solo_view.specs.declared.occ.Occ.{Occ}
use Rattle.solo_view.specs.declared.occ.Occ.TheVariants.{Run}
use Rattle.solo_view.specs.Log.{final_of, Final}
use Rattle.solo_world.specs.History.{made_final}
use Rattle.solo_model.specs.NewObjects.{pool_with, pool_without}
use Rattle.solo_crash.specs.NewObjects.{block_of_chunks, block_of_run, unlinked, with_block, without_block, AreFreeChunks, HasNewObject, IsFreeInRun, MayFreeChunks, MayFreeInRun}

pub data HeapChange : Type 0 where
  -- a block of a run is allocated: the chunk, the lines of a block, the block's index, and the object's type and bytes
  AllocatesInRun : ℕ → ℕ → ℕ → ℕ → List ℕ → HeapChange
  -- so many chunks from this one on become one block
  AllocatesChunks : ℕ → ℕ → ℕ → List ℕ → HeapChange
  -- a block of a run is freed
  FreesInRun : ℕ → ℕ → ℕ → HeapChange
  -- a block of so many whole chunks is
  FreesChunks : ℕ → ℕ → HeapChange

-- the block that is allocated or freed
abbrev pub block_changed : ℕ → HeapChange → Block
block_changed lanes (AllocatesInRun c lines index kind bytes) = block_of_run lanes c lines index
block_changed lanes (AllocatesChunks c chunks kind bytes) = block_of_chunks lanes c chunks
block_changed lanes (FreesInRun c lines index) = block_of_run lanes c lines index
block_changed lanes (FreesChunks c chunks) = block_of_chunks lanes c chunks

-- its entry: an OR or an AND of the run's bitmap, or a SET of the first chunk's descriptor
abbrev pub entry_of : ℕ → HeapChange → Final
entry_of lanes (AllocatesInRun c lines index kind bytes) = final_of 1 (chunk_word lanes c) (2 ^ index)
entry_of lanes (AllocatesChunks c chunks kind bytes) = final_of 0 (descriptor_word lanes c) (descriptor_of (Chunks chunks))
entry_of lanes (FreesInRun c lines index) = final_of 2 (chunk_word lanes c) (2 ^ 64 - 1 - 2 ^ index)
entry_of lanes (FreesChunks c chunks) = final_of 0 (descriptor_word lanes c) 0

-- the words with it applied
abbrev pub changed : ℕ → HeapChange → (ℕ → ℕ) → ℕ → ℕ
changed lanes change w i = made_final (entry_of lanes change ∷ []) i (w i)

-- what a change asks of the words before it: that its block is free and a new object stands in it, or is allocated and not the root's
abbrev pub CanChange : (ℕ → ℕ) → ℕ → ℕ → HeapChange → Type 0
CanChange w lanes zones (AllocatesInRun c lines index kind bytes) = IsFreeInRun w lanes zones c lines index × HasNewObject w (block_of_run lanes c lines index) kind bytes
CanChange w lanes zones (AllocatesChunks c chunks kind bytes) = AreFreeChunks w lanes zones c chunks × HasNewObject w (block_of_chunks lanes c chunks) kind bytes
CanChange w lanes zones (FreesInRun c lines index) = MayFreeInRun w lanes zones c lines index
CanChange w lanes zones (FreesChunks c chunks) = MayFreeChunks w lanes zones c chunks

-- what it asks of the blocks alone: one that is allocated has a chunk at least, or is one of a run
abbrev pub MayChange : (ℕ → ℕ) → ℕ → ℕ → HeapChange → Type 0
MayChange w lanes zones (AllocatesInRun c lines index kind bytes) = IsFreeInRun w lanes zones c lines index
MayChange w lanes zones (AllocatesChunks c chunks kind bytes) = (1 ≤ chunks) × AreFreeChunks w lanes zones c chunks
MayChange w lanes zones (FreesInRun c lines index) = MayFreeInRun w lanes zones c lines index
MayChange w lanes zones (FreesChunks c chunks) = MayFreeChunks w lanes zones c chunks

-- and of what stands in a block that it allocates
abbrev pub HasItsObject : (ℕ → ℕ) → ℕ → HeapChange → Type 0
HasItsObject w lanes (AllocatesInRun c lines index kind bytes) = HasNewObject w (block_of_run lanes c lines index) kind bytes
HasItsObject w lanes (AllocatesChunks c chunks kind bytes) = HasNewObject w (block_of_chunks lanes c chunks) kind bytes
HasItsObject w lanes change = Unit {0}

-- what it makes of a pool, and of the pool's blocks
abbrev pub pool_changed : ℕ → HeapChange → PoolView → PoolView
pool_changed lanes (AllocatesInRun c lines index kind bytes) pool = pool_with (offset_in (block_of_run lanes c lines index)) (unlinked kind bytes) pool
pool_changed lanes (AllocatesChunks c chunks kind bytes) pool = pool_with (offset_in (block_of_chunks lanes c chunks)) (unlinked kind bytes) pool
pool_changed lanes (FreesInRun c lines index) pool = pool_without (offset_in (block_of_run lanes c lines index)) pool
pool_changed lanes (FreesChunks c chunks) pool = pool_without (offset_in (block_of_chunks lanes c chunks)) pool

abbrev pub blocks_changed : ℕ → HeapChange → List Block → List Block
blocks_changed lanes (AllocatesInRun c lines index kind bytes) bs = with_block (block_of_run lanes c lines index) bs
blocks_changed lanes (AllocatesChunks c chunks kind bytes) bs = with_block (block_of_chunks lanes c chunks) bs
blocks_changed lanes (FreesInRun c lines index) bs = without_block (block_of_run lanes c lines index).place bs
blocks_changed lanes (FreesChunks c chunks) bs = without_block (block_of_chunks lanes c chunks).place bs

-- one of two blocks ends before the other begins
abbrev pub AreDisjoint : Block → Block → Type 0
AreDisjoint block b = (block.place + 64 * block.lines ≤ b.place) ⊎ (b.place + 64 * b.lines ≤ block.place)

-- the change frees this block
abbrev pub Frees : ℕ → HeapChange → Block → Type 0
Frees lanes (FreesInRun c lines index) block = block_of_run lanes c lines index ≡ block
Frees lanes (FreesChunks c chunks) block = block_of_chunks lanes c chunks ≡ block
Frees lanes change block = ⊥

-- a change that frees the block may be made
pub record MayBeFreed (w : ℕ → ℕ) (lanes zones : ℕ) (block : Block) : Type 0 where
  pub change : HeapChange
  pub can : CanChange w lanes zones change
  pub frees : Frees lanes change block

-- the occupancy word of a run at a chunk
abbrev pub run_at : ℕ → ℕ → Occ
run_at lanes c = Run (4096 * (2 + 2 * lanes + 65 * (c / 64) + c % 64))
