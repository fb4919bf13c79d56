-- Where the parts of a pool stand. Places are byte offsets from the pool's start.
use Rattle.std.specs.Prelude.{◌≡◌, ◌⊎◌, ℕ, ◌+◌, ◌*◌, ◌<◌, ◌≤◌}

-- a pool may have these numbers of lanes and zones: 1 to 32 of each
pub record IsShape (lanes zones : ℕ) : Type 0 where
  pub lanes_from : 1 ≤ lanes
  pub lanes_to : lanes ≤ 32
  pub zones_from : 1 ≤ zones
  pub zones_to : zones ≤ 32

-- no pool has this number of lanes or of zones
abbrev pub IsOutside : ℕ → Type 0
IsOutside count = (count < 1) ⊎ (32 < count)

-- where a lane's area of 8192 bytes begins: behind the header page and the lanes before it
abbrev pub lane_place : ℕ → ℕ
lane_place lane = 4096 + 8192 * lane

-- where a zone of 266240 bytes begins: behind the header page, all lanes and the zones before it
abbrev pub zone_place : ℕ → ℕ → ℕ
zone_place lanes zone = 4096 + 8192 * lanes + 266240 * zone

-- where the descriptor of a chunk stands: word c of the zone is that of chunk c
abbrev pub descriptor_place : ℕ → ℕ → ℕ → ℕ
descriptor_place lanes zone chunk = zone_place lanes zone + 8 * chunk

-- where a chunk of 4096 bytes begins: behind the zone's page of descriptors and the chunks before it
abbrev pub chunk_place : ℕ → ℕ → ℕ → ℕ
chunk_place lanes zone chunk = zone_place lanes zone + 4096 + 4096 * chunk

-- the bytes of a pool: the header page, the lanes' areas and the zones
abbrev pub pool_size : ℕ → ℕ → ℕ
pool_size lanes zones = 4096 + 8192 * lanes + 266240 * zones

-- a chunk of a pool of some shape begins at this place
pub record IsChunkPlace (place : ℕ) : Type 0 where
  pub lanes : ℕ
  pub zones : ℕ
  pub zone : ℕ
  pub chunk : ℕ
  pub shape : IsShape lanes zones
  pub zone_in_range : zone < zones
  pub chunk_in_range : chunk < 64
  pub is_place : place ≡ chunk_place lanes zone chunk
