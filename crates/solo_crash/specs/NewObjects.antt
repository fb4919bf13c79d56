-- What a block that is made an object's, and one that is freed, make of the pool that words hold. `w` gives words by their number before, `v` after;
-- chunks are counted in one row over all zones.
use Rattle.std.specs.Prelude.{length, ◌≡◌, ◌≢◌, ℕ, ◌+◌, ◌-◌, ◌*◌, ◌/◌, ◌%◌, ◌^◌, ◌<◌, ◌≤◌, ◌==◌, not, nat_lt, if◌then◌else◌, false, List, [], ◌∷◌, filter, bit_and, bit_or}
use Rattle.std.specs.Int.{bit_at}
use Rattle.pm_layout.specs.Sizes.{block_place, blocks_of, class_of, descriptor_of}
use Rattle.pm_layout.specs.declared.class.Class.TheVariants.{Lines, Chunks}
use Rattle.pm_objects.specs.Pool.{block_lines}
use Rattle.pm_objects.specs.declared.pool.Object.{Object}
use Rattle.pm_image.specs.declared.block.Block.{Block}
use Rattle.pm_image.specs.Blocks.{chunk_word, descriptor_word}
use Rattle.pm_image.specs.Contents.{bytes_in, data_words, header_word, offset_in}
use Rattle.pm_image.specs.Reads.{Reads}
use Rattle.solo_view.specs.Occupancy.{is_chunk_taken}

-- blocks with one more, in rising place
unfoldable pub with_block : Block → List Block → List Block
with_block block [] = block ∷ []
with_block block (b ∷ bs) = if nat_lt block.place b.place then block ∷ b ∷ bs else b ∷ with_block block bs

-- blocks but the one at a place
unfoldable pub without_block : ℕ → List Block → List Block
without_block place bs = filter (λ b. not (b.place == place)) bs

-- block i of a run at a chunk, and the block that is so many whole chunks from this one on
abbrev pub block_of_run : ℕ → ℕ → ℕ → ℕ → Block
block_of_run lanes c lines i = record { place = block_place (8 * chunk_word lanes c) lines i; lines = lines }

abbrev pub block_of_chunks : ℕ → ℕ → ℕ → Block
block_of_chunks lanes c chunks = record { place = 8 * chunk_word lanes c; lines = 64 * chunks }

-- a word of a block that is filled for a new object, counted from the block's first: the object's type, then its size in bytes, then zeros
abbrev pub fresh_word : ℕ → ℕ → ℕ → ℕ
fresh_word kind size place = if place == 0 then kind else if place == 1 then size else 0

-- An object of this type and these bytes, with no links, stands in the block, which is of its size. It is new: no block was there, and it may have been
-- written since its block was filled.
pub record HasNewObject (v : ℕ → ℕ) (block : Block) (kind : ℕ) (bytes : List ℕ) : Type 0 where
  pub some : 1 ≤ length bytes
  pub most : length bytes ≤ 262080
  pub of_size : block_lines (class_of (length bytes)) ≡ block.lines
  pub header : (place : ℕ) → place < 8 → header_word v block place ≡ fresh_word kind (length bytes) place
  pub holds : bytes_in v block ≡ bytes

-- that object: it has no members
abbrev pub unlinked : ℕ → List ℕ → Object
unlinked kind bytes = record { kind = kind; bytes = bytes; members = [] }

-- the block is of an object of this size, and its words are as it was filled for that
pub record IsFreshBlock (v : ℕ → ℕ) (block : Block) (kind size : ℕ) : Type 0 where
  pub some : 1 ≤ size
  pub most : size ≤ 262080
  pub of_size : block_lines (class_of size) ≡ block.lines
  pub words : (place : ℕ) → place < 8 + data_words size → header_word v block place ≡ fresh_word kind size place

-- the block of a run is free
pub record IsFreeInRun (w : ℕ → ℕ) (lanes zones c lines index : ℕ) : Type 0 where
  pub in_zones : c < 64 * zones
  pub inside : index < blocks_of lines
  pub is_run : w (descriptor_word lanes c) ≡ descriptor_of (Lines lines)
  pub is_clear : bit_at (w (chunk_word lanes c)) index ≡ 0

-- so are so many chunks of a zone from this one on
pub record AreFreeChunks (w : ℕ → ℕ) (lanes zones c chunks : ℕ) : Type 0 where
  pub in_zones : c < 64 * zones
  pub in_zone : c % 64 + chunks ≤ 64
  pub are_free : (k : ℕ) → k < chunks → is_chunk_taken w lanes (c / 64) (c % 64 + k) ≡ false

-- A free block of a run is made a new object's: of the words that the meaning reads only the run's bitmap changes, which has one bit more. The block's
-- words, which it does not read before, may stand there already.
pub record MakesRunObject (w v : ℕ → ℕ) (lanes zones c lines index kind : ℕ) (bytes : List ℕ) : Type 0 where
  pub free : IsFreeInRun w lanes zones c lines index
  pub bitmap : v (chunk_word lanes c) ≡ bit_or (w (chunk_word lanes c)) (2 ^ index)
  pub object : HasNewObject v (block_of_run lanes c lines index) kind bytes
  pub others : (i : ℕ) → Reads w lanes zones i → i ≢ chunk_word lanes c → v i ≡ w i

-- Free chunks are made a new object's block: of the words that the meaning reads only the descriptor of the first changes.
pub record MakesChunksObject (w v : ℕ → ℕ) (lanes zones c chunks kind : ℕ) (bytes : List ℕ) : Type 0 where
  pub free : AreFreeChunks w lanes zones c chunks
  pub descriptor : v (descriptor_word lanes c) ≡ descriptor_of (Chunks chunks)
  pub object : HasNewObject v (block_of_chunks lanes c chunks) kind bytes
  pub others : (i : ℕ) → Reads w lanes zones i → i ≢ descriptor_word lanes c → v i ≡ w i

-- A free chunk is made a run in which one block alone is allocated, a new object's: of the words that the meaning reads only the chunk's descriptor
-- changes. The bitmap, which it does not read before, may stand there already.
pub record MakesObjectOfNewRun (w v : ℕ → ℕ) (lanes zones c lines index kind : ℕ) (bytes : List ℕ) : Type 0 where
  pub in_zones : c < 64 * zones
  pub inside : index < blocks_of lines
  pub is_free : is_chunk_taken w lanes (c / 64) (c % 64) ≡ false
  pub descriptor : v (descriptor_word lanes c) ≡ descriptor_of (Lines lines)
  pub bitmap : v (chunk_word lanes c) ≡ 2 ^ index
  pub object : HasNewObject v (block_of_run lanes c lines index) kind bytes
  pub others : (i : ℕ) → Reads w lanes zones i → i ≢ descriptor_word lanes c → v i ≡ w i

-- the word is one of a chunk's
pub record IsChunkWord (lanes zones i : ℕ) : Type 0 where
  pub chunk : ℕ
  pub in_zones : chunk < 64 * zones
  pub from : chunk_word lanes chunk ≤ i
  pub to : i < chunk_word lanes chunk + 512

-- the word is one of the block's
pub record IsWordOf (block : Block) (i : ℕ) : Type 0 where
  pub from : block.place / 8 ≤ i
  pub to : i < block.place / 8 + 8 * block.lines

-- the block of a run is allocated, and not the root's
pub record MayFreeInRun (w : ℕ → ℕ) (lanes zones c lines index : ℕ) : Type 0 where
  pub in_zones : c < 64 * zones
  pub inside : index < blocks_of lines
  pub is_run : w (descriptor_word lanes c) ≡ descriptor_of (Lines lines)
  pub is_set : bit_at (w (chunk_word lanes c)) index ≡ 1
  pub not_root : w 64 ≢ offset_in (block_of_run lanes c lines index)

-- so is the block of whole chunks
pub record MayFreeChunks (w : ℕ → ℕ) (lanes zones c chunks : ℕ) : Type 0 where
  pub in_zones : c < 64 * zones
  pub is_first : w (descriptor_word lanes c) ≡ descriptor_of (Chunks chunks)
  pub not_root : w 64 ≢ offset_in (block_of_chunks lanes c chunks)

-- A block of a run is freed: of the words that the meaning reads only the run's bitmap changes, which has that bit no more, and the block's words, which
-- may be any.
pub record FreesRunBlock (w v : ℕ → ℕ) (lanes zones c lines index : ℕ) : Type 0 where
  pub may : MayFreeInRun w lanes zones c lines index
  pub bitmap : v (chunk_word lanes c) ≡ bit_and (w (chunk_word lanes c)) (2 ^ 64 - 1 - 2 ^ index)
  pub others : (i : ℕ) → Reads w lanes zones i → i ≢ chunk_word lanes c → ¬ IsWordOf (block_of_run lanes c lines index) i → v i ≡ w i

-- A block of whole chunks is freed: of the words that the meaning reads only the descriptor of the first changes, to 0, and the block's words, which may
-- be any.
pub record FreesChunksBlock (w v : ℕ → ℕ) (lanes zones c chunks : ℕ) : Type 0 where
  pub may : MayFreeChunks w lanes zones c chunks
  pub descriptor : v (descriptor_word lanes c) ≡ 0
  pub others : (i : ℕ) → Reads w lanes zones i → i ≢ descriptor_word lanes c → ¬ IsWordOf (block_of_chunks lanes c chunks) i → v i ≡ w i
