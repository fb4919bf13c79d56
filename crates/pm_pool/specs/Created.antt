-- What a new pool has in it: docs/FORMAT.md, "A created pool". Places are byte offsets from the pool's start.
use Rattle.std.specs.Prelude.{ℕ, ◌+◌, ◌-◌, ◌*◌, ◌/◌, ◌%◌, ◌≤◌, ◌==◌, nat_lt, if◌then◌else◌, List, map, replicate, slice_index, slice_set}
use Rattle.std.specs.List.{range_with_len}
use Rattle.pm_layout.specs.declared.class.Class.{Class}
use Rattle.pm_layout.specs.declared.class.Class.TheVariants.{Lines, Chunks}
use Rattle.pm_layout.specs.Layout.{zone_place, chunk_place, pool_size}
use Rattle.pm_layout.specs.Sizes.{class_of, block_place, descriptor_of}
use Rattle.pm_header.specs.Name.{IsName}
use Rattle.pm_header.specs.Spelling.{with_pairs}
use Rattle.pm_header.specs.declared.header.Header.{Header}

-- what `create` is asked for
pub record Wanted : Type 0 where
  pub lanes : ℕ
  pub zones : ℕ
  pub id : ℕ
  pub layout : List ℕ
  pub root : ℕ

-- a pool can be made with this id, this layout name and a root of this size
pub record CanCreate (number : ℕ) (name : List ℕ) (size : ℕ) : Type 0 where
  pub id : 1 ≤ number
  pub layout : IsName name
  pub root : size ≤ 262080

-- the header of the new pool, of version 1
abbrev pub header_of : Wanted → Header
header_of w = record { version = 1; id = w.id; lanes = w.lanes; zones = w.zones; bytes = pool_size w.lanes w.zones; name = w.layout }

-- where the root's block begins: the first block of the first chunk
abbrev pub root_block : ℕ → Class → ℕ
root_block lanes (Lines lines) = block_place (chunk_place lanes 0 0) lines 0
root_block lanes (Chunks chunks) = chunk_place lanes 0 0

-- the root's offset, its first data byte behind the header line of its block; 0 for no root
abbrev pub root_offset : ℕ → ℕ → ℕ
root_offset lanes root = if root == 0 then 0 else root_block lanes (class_of root) + 64

-- the header page: both pairs and the root's offset, all else zero
unfoldable pub header_page : Wanted → List ℕ
header_page w = with_pairs (slice_set (replicate 512 0) 64 (root_offset w.lanes w.root)) (header_of w)

-- a lane area at a place of its own: generation 1, and an empty log
abbrev pub lane_word : ℕ → ℕ
lane_word at = if at == 0 then 1 else 0

-- the first chunk with the root's block: the bitmap's first bit where it is a run, and the block's header with type 0 and the size
abbrev pub chunk_word : Class → ℕ → ℕ → ℕ
chunk_word (Lines lines) root at = if at == 0 then 1 else (if at == 72 then root else 0)
chunk_word (Chunks chunks) root at = if at == 8 then root else 0

-- the zones, from the first one's place on: the first descriptor and chunk, where there is a root
abbrev pub zone_word : ℕ → ℕ → ℕ
zone_word root at =
    if root == 0 then 0
    else (if at == 0 then descriptor_of (class_of root)
    else (if nat_lt at 4096 then 0 else chunk_word (class_of root) root (at - 4096)))

-- the word at a place that is a multiple of 8
unfoldable pub created_word : Wanted → ℕ → ℕ
created_word w place =
    if nat_lt place 4096 then slice_index (header_page w) (place / 8)
    else (if nat_lt place (zone_place w.lanes 0) then lane_word ((place - 4096) % 8192)
    else zone_word w.root (place - zone_place w.lanes 0))

-- the words of a new pool
abbrev pub created : Wanted → List ℕ
created w = map (λ i. created_word w (8 * i)) (range_with_len 0 (pool_size w.lanes w.zones / 8))
