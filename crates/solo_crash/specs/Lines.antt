-- What a lane reads of the heap to find the block that begins at a line, and what the meaning's words have there.
use Rattle.std.specs.Prelude.{◌≡◌, ℕ, ◌/◌, true, List, slice_index}
use Rattle.solo_view.specs.Blocks.{bitmap_word, descriptor_word, is_run}

-- a lane's words are the others where they tell of blocks in the line's chunk: in its descriptor, and where that is a run's, in the bitmap
pub record AgreeAtLine (words : List ℕ) (w : ℕ → ℕ) (lanes line : ℕ) : Type 0 where
  pub descriptor : slice_index words (descriptor_word lanes (line / 64)) ≡ w (descriptor_word lanes (line / 64))
  pub bitmap : is_run (w (descriptor_word lanes (line / 64))) ≡ true → slice_index words (bitmap_word (line / 64)) ≡ w (bitmap_word (line / 64))
