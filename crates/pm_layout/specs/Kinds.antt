-- What stands at a word of a pool. Word w has the 8 bytes from place 8 * w on.
use Rattle.std.specs.Prelude.{◌≡◌, ◌≢◌, ℕ, ◌+◌, ◌*◌, ◌<◌, ◌≤◌}
use Rattle.pm_layout.specs.declared.kind.PlaceKind.{PlaceKind}
use Rattle.pm_layout.specs.declared.kind.PlaceKind.TheVariants.{Root, Lane, Descriptor, Chunk, Other}
use Rattle.pm_layout.specs.Layout.{lane_place, descriptor_place, chunk_place}

-- the word is the root's offset
abbrev pub IsRoot : ℕ → Type 0
IsRoot word = word ≡ 64

-- the word lies in the area of this lane
pub record IsInLane (lanes word lane : ℕ) : Type 0 where
  pub in_range : lane < lanes
  pub from : lane_place lane ≤ 8 * word
  pub to : 8 * word < lane_place lane + 8192

-- the word is the descriptor of this chunk
pub record IsDescriptor (lanes zones word zone chunk : ℕ) : Type 0 where
  pub zone_in_range : zone < zones
  pub chunk_in_range : chunk < 64
  pub is_place : 8 * word ≡ descriptor_place lanes zone chunk

-- the word lies in this chunk
pub record IsInChunk (lanes zones word zone chunk : ℕ) : Type 0 where
  pub zone_in_range : zone < zones
  pub chunk_in_range : chunk < 64
  pub from : chunk_place lanes zone chunk ≤ 8 * word
  pub to : 8 * word < chunk_place lanes zone chunk + 4096

-- the word is neither the root's offset nor in a lane's area, nor a descriptor, nor in a chunk
pub record IsOther (lanes zones word : ℕ) : Type 0 where
  pub no_root : word ≢ 64
  pub no_lane : (lane : ℕ) → ¬ IsInLane lanes word lane
  pub no_descriptor : (zone chunk : ℕ) → ¬ IsDescriptor lanes zones word zone chunk
  pub no_chunk : (zone chunk : ℕ) → ¬ IsInChunk lanes zones word zone chunk

-- this is what stands at the word in a pool of so many lanes and zones
abbrev pub IsKind : ℕ → ℕ → ℕ → PlaceKind → Type 0
IsKind lanes zones word Root = IsRoot word
IsKind lanes zones word (Lane lane) = IsInLane lanes word lane
IsKind lanes zones word (Descriptor zone chunk) = IsDescriptor lanes zones word zone chunk
IsKind lanes zones word (Chunk zone chunk) = IsInChunk lanes zones word zone chunk
IsKind lanes zones word Other = IsOther lanes zones word
