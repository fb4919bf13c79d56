-- What a world began from, and which line's lock guards a word.
use Rattle.std.specs.Prelude.{◌≡◌, ℕ, ◌+◌, ◌-◌, ◌*◌, ◌<◌, ◌≤◌, ◌⊎◌, Bool, true, not, IsTrue, false, List, length, slice_index, Some}
use Rattle.solo_view.specs.Blocks.{block_at, zone_page, zone_of, chunk_of, descriptor_word, bitmap_word, is_run}
use Rattle.solo_view.specs.Held.{is_under_found}
use Rattle.solo_view.specs.Occupancy.{is_chunk_taken, is_idle, is_in_block}
use Rattle.pm_image.specs.Reads.{IsHeapWord}

-- the pool's shape, and its words at the opening, after recovery
pub record Opening : Type 0 where
  pub lanes : ℕ
  pub zones : ℕ
  pub words : List ℕ

-- the line's lock guards the word: a block begins at the line, and the word is one of those of it that its lock is for
pub record Guards (o : Opening) (line w : ℕ) : Type 0 where
  pub lines : ℕ
  pub block : block_at o.lanes o.words line ≡ Some lines
  pub inside : IsTrue (is_under_found line (Some lines) w)

-- the page is a chunk: behind the lanes' areas, and not the first of a zone
abbrev pub IsChunk : ℕ → ℕ → Type 0
IsChunk lanes page = (zone_page lanes 0 ≤ page) × (1 ≤ chunk_of lanes page)

-- the chunk is one of the pool's
abbrev pub IsPoolChunk : ℕ → ℕ → ℕ → Type 0
IsPoolChunk lanes zones page = IsChunk lanes page × (page < 1 + 2 * lanes + 65 * zones)

-- the chunk is free by these words
abbrev pub is_free_chunk : (ℕ → ℕ) → ℕ → ℕ → Bool
is_free_chunk words lanes page = not (is_chunk_taken words lanes (zone_of lanes page) (chunk_of lanes page - 1))

-- the word tells of the blocks in a chunk: it describes the chunk, or is its bitmap where the chunk is a run
abbrev pub TellsOfBlocks : Opening → ℕ → Type 0
TellsOfBlocks o w = (page : ℕ) × (IsChunk o.lanes page × ((w ≡ descriptor_word o.lanes page) ⊎ ((w ≡ bitmap_word page) × IsTrue (is_run (slice_index o.words (descriptor_word o.lanes page))))))

-- The word is of the root or the zones, and not idle by the opening's words: the pool's meaning may read it, and only entries of the history change it. The
-- meaning reads a free chunk's descriptor too, but that is idle, since a lane may make the chunk a run with no entry.
pub record IsLivingWord (o : Opening) (w : ℕ) : Type 0 where
  pub heap : IsHeapWord o.lanes o.zones w
  pub living : is_idle (slice_index o.words) o.lanes w ≡ false

-- What recovery leaves and a meaning gives: the words of a shape, whose blocks lie apart, behind the lanes' areas. The heap's stage says this
-- of the words as they are settled, since blocks then come and go.
pub record IsSound (o : Opening) : Type 0 where
  pub some_lanes : 1 ≤ o.lanes
  pub most_lanes : o.lanes ≤ 32
  pub size : length o.words ≡ 512 + 1024 * o.lanes + 33280 * o.zones
  pub one_guard : (line other w : ℕ) → Guards o line w → Guards o other w → line ≡ other
  pub behind_areas : (line w : ℕ) → Guards o line w → 512 + 1024 * o.lanes ≤ w
  pub within : (line w : ℕ) → Guards o line w → w < length o.words
  -- what a lock guards lies in an allocated block
  pub in_blocks : (line w : ℕ) → Guards o line w → is_in_block (slice_index o.words) o.lanes w ≡ true
  -- a free chunk is described by 0
  pub undescribed : (page : ℕ) → IsPoolChunk o.lanes o.zones page → is_free_chunk (slice_index o.words) o.lanes page ≡ true → slice_index o.words (descriptor_word o.lanes page) ≡ 0
  -- no lock guards what tells of blocks
  pub apart : (line w : ℕ) → Guards o line w → TellsOfBlocks o w → ⊥
