-- Where an allocated block lies by words alone: among a run's blocks, with its bit set, or as whole chunks. `w` gives words by their number; chunks are counted in one
-- row over all zones.
use Rattle.std.specs.Prelude.{◌≡◌, ◌≢◌, ℕ, ◌+◌, ◌*◌, ◌%◌, ◌<◌, ◌≤◌}
use Rattle.std.specs.Int.{bit_at}
use Rattle.pm_layout.specs.Sizes.{blocks_of}
use Rattle.pm_image.specs.declared.block.Block.{Block}
use Rattle.pm_image.specs.Blocks.{chunk_word, descriptor_word}
use Rattle.solo_crash.specs.NewObjects.{block_of_chunks, block_of_run}

-- the chunk is a run with blocks of so many lines, and the block is one of these
pub record InRun (w : ℕ → ℕ) (lanes c lines index : ℕ) : Type 0 where
  pub inside : index < blocks_of lines
  pub described : w (descriptor_word lanes c) ≡ 1 + 256 * lines

-- the block is of whole chunks of a zone, of which none is a run
pub record InChunks (w : ℕ → ℕ) (lanes c chunks : ℕ) : Type 0 where
  pub some : 1 ≤ chunks
  pub fits : c % 64 + chunks ≤ 64
  pub no_run : (k : ℕ) → k < chunks → w (descriptor_word lanes (c + k)) % 256 ≢ 1

-- the block lies by these words: its bit is set in its run, or the first of its chunks tells how many there are
pub data Lies (w : ℕ → ℕ) (lanes zones : ℕ) (b : Block) : Type 0 where
  InARun : (c lines index : ℕ) → c < 64 * zones → InRun w lanes c lines index → bit_at (w (chunk_word lanes c)) index ≡ 1 → block_of_run lanes c lines index ≡ b → Lies w lanes zones b
  OfChunks : (c chunks : ℕ) → c < 64 * zones → InChunks w lanes c chunks → w (descriptor_word lanes c) ≡ 2 + 256 * chunks → block_of_chunks lanes c chunks ≡ b → Lies w lanes zones b
