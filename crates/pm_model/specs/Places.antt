-- At which offsets an object can stand in a pool of some shape, whatever is in the pool:
-- docs/FORMAT.md, "Shapes and places".
use Rattle.std.specs.Prelude.{◌≡◌, ◌⊎◌, ℕ, ◌+◌, ◌-◌, ◌/◌, ◌%◌, ◌<◌, ◌≤◌, ◌==◌, ◌&&◌, ◌||◌, nat_lt, nat_le, Bool}
use Rattle.std.specs.List.{list_any}
use Rattle.pm_layout.specs.declared.class.Class.{Class}
use Rattle.pm_layout.specs.declared.class.Class.TheVariants.{Lines, Chunks}
use Rattle.pm_layout.specs.Layout.{zone_place, chunk_place}
use Rattle.pm_layout.specs.Sizes.{blocks_of, blocks_by_class, block_place}
use Rattle.pm_objects.specs.declared.ids.Oid.{Oid}
use Rattle.pm_model.specs.Items.{PlainPool}

-- a block can begin at this line of a chunk: whole chunks do at line 0, block i of a run of so
-- many lines at line 1 + lines * i
unfoldable pub can_begin_at_line : ℕ → Bool
can_begin_at_line line =
    line == 0
    || (nat_le 1 line
    && list_any (λ class. (line - 1) % class.0 == 0
    && nat_lt ((line - 1) / class.0) class.1) blocks_by_class)

-- the bytes from the first zone on to the block of an object at this offset: its header line
-- comes before it
abbrev pub bytes_in_zones : ℕ → ℕ → ℕ
bytes_in_zones lanes off = off - 64 - zone_place lanes 0

-- a block can begin 64 bytes before the offset: a zone has a page of descriptors and 64 pages of
-- a chunk
unfoldable pub can_begin : ℕ → ℕ → ℕ → Bool
can_begin lanes zones off =
    let place = bytes_in_zones lanes off in
    nat_le (zone_place lanes 0 + 64) off && nat_lt (place / 266240) zones
    && nat_le 4096 (place % 266240) && place % 64 == 0
    && can_begin_at_line (place % 4096 / 64)

-- a block can begin 64 bytes before the offset: whole chunks, or a block of a run
pub record CanBegin (lanes zones off : ℕ) : Type 0 where
  pub zone : ℕ
  pub chunk : ℕ
  pub zone_in_range : zone < zones
  pub chunk_in_range : chunk < 64
  pub begins : (off ≡ chunk_place lanes zone chunk + 64)
      ⊎ ((lines : ℕ) × (index : ℕ) × (index < blocks_of lines)
      × (off ≡ block_place (chunk_place lanes zone chunk) lines index + 64))

-- a block of this class can begin 64 bytes before the offset, in this chunk of a zone: whole
-- chunks that all lie in the zone, or a block of a run
abbrev pub BeginsInChunk : Class → ℕ → ℕ → ℕ → ℕ → Type 0
BeginsInChunk (Chunks chunks) lanes zone chunk off = (chunk + chunks ≤ 64)
    × (off ≡ chunk_place lanes zone chunk + 64)
BeginsInChunk (Lines lines) lanes zone chunk off = (index : ℕ) × (index < blocks_of lines)
    × (off ≡ block_place (chunk_place lanes zone chunk) lines index + 64)

-- so it can in some chunk of the pool
pub record CanHold (lanes zones : ℕ) (class : Class) (off : ℕ) : Type 0 where
  pub zone : ℕ
  pub chunk : ℕ
  pub zone_in_range : zone < zones
  pub chunk_in_range : chunk < 64
  pub begins : BeginsInChunk class lanes zone chunk off

-- the id has the form of an object's id in this pool
abbrev pub has_place : PlainPool → Oid → Bool
has_place pool id = id.pool == pool.id && can_begin pool.lanes pool.zones id.off
