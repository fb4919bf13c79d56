-- Which blocks of a run, and which chunks of a zone, are taken by the pool's words alone: docs/FORMAT.md, "Volatile words". `words` gives the pool's
-- words by their number.
use Rattle.std.specs.Prelude.{◌≡◌, ◌↔◌, ℕ, ◌+◌, ◌-◌, ◌*◌, ◌/◌, ◌%◌, ◌<◌, ◌==◌, ◌&&◌, ◌||◌, not, nat_le, nat_lt, Bool, true, List, length, slice_index}
use Rattle.std.specs.List.{list_any, range_with_len}
use Rattle.std.specs.Int.{bit_at}
use Rattle.pm_layout.specs.Sizes.{blocks_of}
use Rattle.solo_view.specs.declared.occ.Occ.{Occ}
use Rattle.solo_view.specs.declared.occ.Occ.TheVariants.{Run, Zone}
use Rattle.solo_view.specs.Blocks.{zone_page, zone_of, chunk_of, descriptor_word, bitmap_word, describes, is_run, is_huge, is_chunk}

-- the run's block with this index is allocated, or the run has no such block; of a page that is no run each is taken
abbrev pub is_block_taken : (ℕ → ℕ) → ℕ → ℕ → ℕ → Bool
is_block_taken words lanes page block =
    let descriptor = words (descriptor_word lanes page) in
    not (is_run descriptor) || nat_le (blocks_of (descriptor / 256)) block || bit_at (words (bitmap_word page)) block == 1

-- the zone's chunk with this number is one of the huge block that begins at the other
abbrev pub reaches : (ℕ → ℕ) → ℕ → ℕ → ℕ → ℕ → Bool
reaches words lanes zone chunk first =
    let descriptor = words (512 * zone_page lanes zone + first) in
    is_huge descriptor && nat_lt chunk (first + descriptor / 256)

-- the zone's chunk with this number, 0 for the first, is a run or one of a huge block
abbrev pub is_chunk_taken : (ℕ → ℕ) → ℕ → ℕ → ℕ → Bool
is_chunk_taken words lanes zone chunk =
    is_run (words (512 * zone_page lanes zone + chunk)) || list_any (reaches words lanes zone chunk) (range_with_len 0 (chunk + 1))

-- the bit of an occupancy word is of something that the pool's words say is taken
abbrev pub is_taken : (ℕ → ℕ) → ℕ → Occ → ℕ → Bool
is_taken words lanes (Run place) bit = is_block_taken words lanes (place / 4096) bit
is_taken words lanes (Zone zone) bit = is_chunk_taken words lanes zone bit

-- the word lies in a chunk that is taken, and, where that is a run, in a block that is allocated
abbrev pub is_in_block : (ℕ → ℕ) → ℕ → ℕ → Bool
is_in_block words lanes w =
    let page = w / 512 in
    let descriptor = words (descriptor_word lanes page) in
    is_chunk lanes page && is_chunk_taken words lanes (zone_of lanes page) (chunk_of lanes page - 1)
    && (not (is_run descriptor) || nat_le 8 (w % 512) && bit_at (words (bitmap_word page)) ((w % 512 / 8 - 1) / (descriptor / 256)) == 1)

-- the word describes a chunk that is free
abbrev pub describes_free : (ℕ → ℕ) → ℕ → ℕ → Bool
describes_free words lanes w = describes lanes w && not (is_chunk_taken words lanes (zone_of lanes (w / 512)) (w % 512))

-- the word lies in a chunk, in no allocated block, and is no run's bitmap: whatever stands there, the pool means the same
abbrev pub is_unread : (ℕ → ℕ) → ℕ → ℕ → Bool
is_unread words lanes w =
    let page = w / 512 in
    is_chunk lanes page && not (is_in_block words lanes w) && not (w % 512 == 0 && is_run (words (descriptor_word lanes page)))

-- so may it stand with a free chunk's descriptor, as long as that is of a run without blocks or 0
abbrev pub is_idle : (ℕ → ℕ) → ℕ → ℕ → Bool
is_idle words lanes w = describes_free words lanes w || is_unread words lanes w

-- These are the occupancy words of a pool of these lanes and zones: one for each page, and one for each of 32 zones. Each bit of a chunk's page, and of a
-- zone that the pool has, is set exactly where what it is of is taken by the pool's words.
pub record IsOccupancy (run_words zone_words : List ℕ) (words : ℕ → ℕ) (lanes zones : ℕ) : Type 0 where
  pub pages : length run_words ≡ 1 + 2 * lanes + 65 * zones
  pub zone_count : length zone_words ≡ 32
  pub blocks : (page block : ℕ) → is_chunk lanes page ≡ true → page < 1 + 2 * lanes + 65 * zones → block < 64 → (bit_at (slice_index run_words page) block ≡ 1) ↔ (is_block_taken words lanes page block ≡ true)
  pub chunks : (zone chunk : ℕ) → zone < zones → chunk < 64 → (bit_at (slice_index zone_words zone) chunk ≡ 1) ↔ (is_chunk_taken words lanes zone chunk ≡ true)
