-- Bytes that are written into the words of a pool. Word i has the bytes from place 8 * i on; `w` gives the words by their number before, and `v` after.
use Rattle.std.specs.Prelude.{◌≡◌, ◌⊎◌, ℕ, ◌+◌, ◌-◌, ◌*◌, ◌/◌, ◌<◌, ◌≤◌, if◌then◌else◌, List, length, take, drop, Contains}
use Rattle.pm_words.specs.Words.{patched, AreBytes}
use Rattle.pm_image.specs.declared.block.Block.{Block}
use Rattle.pm_image.specs.Blocks.{blocks}
use Rattle.pm_image.specs.Contents.{data_words, offset_in, size_in}
use Rattle.solo_model.specs.Bytes.{covered_words, is_among}

-- word i, which was x, with those of its bytes replaced that are among the bytes written from a place on
abbrev pub written_word : ℕ → List ℕ → ℕ → ℕ → ℕ
written_word place bytes i x = patched (place - 8 * i) (take (8 - (place - 8 * i)) (drop (8 * i - place) bytes)) x

-- the words after are those before with the bytes written from the place on
pub record IsWritten (w v : ℕ → ℕ) (place : ℕ) (bytes : List ℕ) : Type 0 where
  pub covered : (i : ℕ) → Contains (covered_words place (length bytes)) i → v i ≡ written_word place bytes i (w i)
  pub others : (i : ℕ) → ¬ Contains (covered_words place (length bytes)) i → v i ≡ w i

-- these words, as a function
abbrev pub words_written : ℕ → List ℕ → (ℕ → ℕ) → ℕ → ℕ
words_written place bytes w i = if is_among (covered_words place (length bytes)) i then written_word place bytes i (w i) else w i

-- the bytes are written into the object of an allocated block, from its byte `at` on
pub record WritesObject (w v : ℕ → ℕ) (lanes zones : ℕ) (block : Block) (at : ℕ) (bytes : List ℕ) : Type 0 where
  pub is_there : Contains (blocks w lanes zones) block
  pub inside : at + length bytes ≤ size_in w block
  pub are_bytes : AreBytes bytes
  pub is_written : IsWritten w v (offset_in block + at) bytes

-- the words after are those before but for words that hold bytes of the object in this block
pub record KeepsOthers (w v : ℕ → ℕ) (block : Block) : Type 0 where
  pub same : (i : ℕ) → (i < block.place / 8 + 8) ⊎ (block.place / 8 + 8 + data_words (size_in w block) ≤ i) → v i ≡ w i
