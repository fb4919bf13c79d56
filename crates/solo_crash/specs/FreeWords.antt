-- Words that no meaning reads: those of blocks and chunks that are free. `w` and `v` give recovered words by their number; chunks are counted in one
-- row over all zones.
use Rattle.std.specs.Prelude.{◌≡◌, ◌⊎◌, ℕ, ◌+◌, ◌*◌, ◌/◌, ◌%◌, ◌<◌, ◌≤◌, false, true, List, slice_index}
use Rattle.std.specs.Int.{bit_at}
use Rattle.pm_layout.specs.Sizes.{blocks_of}
use Rattle.pm_image.specs.Blocks.{chunk_word, descriptor_word}
use Rattle.pm_image.specs.Reads.{Reads}
use Rattle.solo_view.specs.declared.occ.Occ.{Occ}
use Rattle.solo_view.specs.declared.occ.Occ.TheVariants.{Run}
use Rattle.solo_view.specs.Blocks.{covers, describes, descriptor_word as lane_descriptor}
use Rattle.solo_view.specs.Occupancy.{is_chunk_taken, is_taken}
use Rattle.solo_world.specs.Heap.{IsOcc}

-- where the occupancy word is a run's, a lane's list of words has the run's descriptor, which tells the lines of a block
abbrev pub HasDescriptor : List ℕ → (ℕ → ℕ) → ℕ → Occ → Type 0
HasDescriptor words w lanes at = (place : ℕ) → at ≡ Run place → slice_index words (lane_descriptor lanes (place / 4096)) ≡ w (lane_descriptor lanes (place / 4096))

-- The word is in one of these blocks of an occupancy word of the pool, and each of them is free; `words` are those by which a lane tells the blocks. It is
-- no descriptor, since a meaning reads those of free chunks too.
pub record IsFreeWord (w : ℕ → ℕ) (lanes zones i : ℕ) : Type 0 where
  pub words : List ℕ
  pub at : Occ
  pub bits : ℕ
  pub of_pool : IsOcc lanes zones at
  pub seen : HasDescriptor words w lanes at
  pub free : (bit : ℕ) → bit < 64 → bit_at bits bit ≡ 1 → is_taken w lanes at bit ≡ false
  pub covered : covers lanes words at bits i ≡ true
  pub undescribing : describes lanes i ≡ false

-- the word is one of the chunk's, or its descriptor
abbrev pub IsOfChunk : ℕ → ℕ → ℕ → Type 0
IsOfChunk lanes c i = (i ≡ descriptor_word lanes c) ⊎ ((chunk_word lanes c ≤ i) × (i < chunk_word lanes c + 512))

-- the chunk is a run without blocks, of some class
pub record IsEmptyRun (w : ℕ → ℕ) (lanes c : ℕ) : Type 0 where
  pub lines : ℕ
  pub some_blocks : 0 < blocks_of lines
  pub is_run : w (descriptor_word lanes c) ≡ 256 * lines + 1
  pub no_block : w (chunk_word lanes c) ≡ 0

-- The words after are those before but for this chunk, which is such a run; behind its bitmap it may have anything.
pub record MakesEmptyRun (w v : ℕ → ℕ) (lanes c : ℕ) : Type 0 where
  pub run : IsEmptyRun v lanes c
  pub others : (i : ℕ) → ¬ IsOfChunk lanes c i → v i ≡ w i

-- the chunk has no block: it is described by 0, or is such a run
abbrev pub HasNoBlocks : (ℕ → ℕ) → ℕ → ℕ → Type 0
HasNoBlocks w lanes c = (w (descriptor_word lanes c) ≡ 0) ⊎ IsEmptyRun w lanes c

-- The words after are those before wherever the meaning reads, but in chunks that were free: each of these has no block still.
pub record MayHaveNewRuns (w v : ℕ → ℕ) (lanes zones : ℕ) : Type 0 where
  pub free_chunks : (c : ℕ) → c < 64 * zones → is_chunk_taken w lanes (c / 64) (c % 64) ≡ false → HasNoBlocks v lanes c
  pub others : (i : ℕ) → Reads w lanes zones i → ((c : ℕ) → c < 64 * zones → is_chunk_taken w lanes (c / 64) (c % 64) ≡ false → ¬ IsOfChunk lanes c i) → v i ≡ w i
