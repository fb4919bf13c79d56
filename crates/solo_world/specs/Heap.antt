-- The heap's volatile words: what lanes hold of them, and how they agree with the pool's words: docs/FORMAT.md, "Volatile words".
use Rattle.std.specs.Prelude.{◌≡◌, ◌⊎◌, ℕ, ◌+◌, ◌*◌, ◌/◌, ◌%◌, ◌^◌, ◌<◌, ◌==◌, ◌&&◌, ◌||◌, if◌then◌else◌, Bool, true, false, All, [], slice_index}
use Rattle.std.specs.Int.{bit_at}
use Rattle.std.specs.List.{list_any}
use Rattle.pm_layout.specs.Sizes.{blocks_of}
use Rattle.solo_view.specs.declared.occ.Occ.{Occ}
use Rattle.solo_view.specs.declared.occ.Occ.TheVariants.{Run, Zone}
use Rattle.solo_view.specs.Blocks.{bitmap_word, descriptor_word, is_chunk, zone_page}
use Rattle.solo_view.specs.Occupancy.{describes_free, is_taken}
use Rattle.solo_view.specs.View.{View, Taken}
use Rattle.solo_view.specs.Views.{has_bit, has_chunk, reserves}
use Rattle.solo_world.specs.Memory.{Memory, occ_at}
use Rattle.solo_world.specs.Memory.Location.{PoolWord, ZoneLock}
use Rattle.solo_world.specs.Opening.{IsChunk, IsPoolChunk, Opening, is_free_chunk}

-- A run without blocks: its descriptor is that of a class, and its bitmap is 0. `words` gives words by their number.
pub record IsEmptyRun (words : ℕ → ℕ) (lanes page : ℕ) : Type 0 where
  pub lines : ℕ
  pub some_blocks : 0 < blocks_of lines
  pub described : words (descriptor_word lanes page) ≡ 256 * lines + 1
  pub no_block : words (bitmap_word page) ≡ 0

-- the chunk has no block: it is described by 0, or is such a run
abbrev pub HasNoBlock : (ℕ → ℕ) → ℕ → ℕ → Type 0
HasNoBlock words lanes page = (words (descriptor_word lanes page) ≡ 0) ⊎ IsEmptyRun words lanes page

-- each chunk that was free at the opening has no block by these words
abbrev pub AreNewRuns : Opening → (ℕ → ℕ) → Type 0
AreNewRuns o words = (page : ℕ) → IsPoolChunk o.lanes o.zones page → is_free_chunk (slice_index o.words) o.lanes page ≡ true → HasNoBlock words o.lanes page

-- the word is the first of a chunk that was free at the opening
abbrev pub is_free_bitmap : Opening → ℕ → Bool
is_free_bitmap o w = w % 512 == 0 && is_chunk o.lanes (w / 512) && is_free_chunk (slice_index o.words) o.lanes (w / 512)

-- The words that tell of blocks: those of the opening, but for the chunks that were free. Of these the memory tells which are runs now, and these have
-- no block.
abbrev pub heap_words : Opening → Memory → ℕ → ℕ
heap_words o mem w =
    if describes_free (slice_index o.words) o.lanes w then mem (PoolWord w) else
    if is_free_bitmap o w then 0 else slice_index o.words w

-- the lane has what the bit is of: it reserved it, or the chunk of the run, or freed it and has not given it back
abbrev pub has_run_chunk : View → Occ → Bool
has_run_chunk v (Run place) = has_chunk v (place / 4096)
has_run_chunk v (Zone zone) = false

abbrev pub has_taken : View → Occ → ℕ → Bool
has_taken v at bit = reserves v at bit || has_run_chunk v at || list_any (has_bit at bit) v.freed

-- the lane holds the zone's lock
abbrev pub holds_zone : View → ℕ → Bool
holds_zone v zone = list_any (λ held. held == zone) v.zone_locks

-- the pool has the occupancy word: it is of one of its chunks, by the chunk's place, or of one of its zones
abbrev pub IsOcc : ℕ → ℕ → Occ → Type 0
IsOcc lanes zones (Run place) = (place % 4096 ≡ 0) × IsChunk lanes (place / 4096) × (place / 4096 < 1 + 2 * lanes + 65 * zones)
IsOcc lanes zones (Zone zone) = zone < zones

-- the word that describes what the bit is of: a run's chunk, or a chunk of the zone
abbrev pub describing : ℕ → Occ → ℕ → ℕ
describing lanes (Run place) bit = descriptor_word lanes (place / 4096)
describing lanes (Zone zone) bit = 512 * zone_page lanes zone + bit

-- what the bit is of is free: a block by the words that tell of blocks now, a chunk by those of the opening
abbrev pub IsFree : Opening → (ℕ → ℕ) → Occ → ℕ → Type 0
IsFree o heap (Run place) bit = is_taken heap o.lanes (Run place) bit ≡ false
IsFree o heap (Zone zone) bit = is_taken (slice_index o.words) o.lanes (Zone zone) bit ≡ false

-- What the lane reserved is of the pool, and free, and the lane has its descriptor as it is now; it freed nothing so far, since this world
-- begins anew after each call that frees. `heap` gives the words that tell of blocks.
pub record BlocksFit (o : Opening) (heap : ℕ → ℕ) (v : View) : Type 0 where
  pub of_pool : All (λ (t : Taken). IsOcc o.lanes o.zones t.at) v.reserved
  pub small : All (λ (t : Taken). t.bits < 2 ^ 64) v.reserved
  pub free : (at : Occ) (bit : ℕ) → reserves v at bit ≡ true → IsFree o heap at bit
  pub described : (at : Occ) (bit : ℕ) → reserves v at bit ≡ true → slice_index v.words (describing o.lanes at bit) ≡ heap (describing o.lanes at bit)
  pub freed : v.freed ≡ []

-- some lane has what the bit is of
abbrev pub SomeHasTaken : (ℕ → View) → ℕ → Occ → ℕ → Type 0
SomeHasTaken views lanes at bit = (k : ℕ) × (k < lanes) × (has_taken (views k) at bit ≡ true)

-- some lane has the zone's lock, and its word says which
abbrev pub SomeHoldsZone : (ℕ → View) → ℕ → Memory → ℕ → Type 0
SomeHoldsZone views lanes mem zone = (k : ℕ) × (k < lanes) × (mem (ZoneLock zone) ≡ k + 1) × (holds_zone (views k) zone ≡ true)

-- A bit is set exactly where what it is of is taken by the pool's words, or a lane has it, and no two lanes have one; a zone's lock is of one lane or
-- free.
pub record Heap (o : Opening) (words : ℕ → ℕ) (mem : Memory) (views : ℕ → View) : Type 0 where
  pub set : (at : Occ) (bit : ℕ) → IsOcc o.lanes o.zones at → bit < 64 → bit_at (mem (occ_at at)) bit ≡ 1
      → (is_taken words o.lanes at bit ≡ true) ⊎ SomeHasTaken views o.lanes at bit
  pub taken : (at : Occ) (bit : ℕ) → IsOcc o.lanes o.zones at → bit < 64 → is_taken words o.lanes at bit ≡ true → bit_at (mem (occ_at at)) bit ≡ 1
  pub held : (k : ℕ) (at : Occ) (bit : ℕ) → k < o.lanes → IsOcc o.lanes o.zones at → bit < 64 → has_taken (views k) at bit ≡ true → bit_at (mem (occ_at at)) bit ≡ 1
  pub apart : (j k : ℕ) (at : Occ) (bit : ℕ) → j < o.lanes → k < o.lanes → has_taken (views j) at bit ≡ true → has_taken (views k) at bit ≡ true → j ≡ k
  pub locked : (k zone : ℕ) → k < o.lanes → holds_zone (views k) zone ≡ true → mem (ZoneLock zone) ≡ k + 1
  pub unlocked : (zone : ℕ) → (mem (ZoneLock zone) ≡ 0) ⊎ SomeHoldsZone views o.lanes mem zone
