-- What a lane that is alone gives back behind its call's end, and what it has then: docs/FORMAT.md, "Volatile words".
use Rattle.std.specs.Prelude.{◌≡◌, ◌≢◌, ◌⊎◌, ◌↔◌, ℕ, ◌/◌, ◌^◌, ◌<◌, true, false, All, List, [], slice_index}
use Rattle.std.specs.Int.{bit_at}
use Rattle.std.specs.List.{list_any}
use Rattle.pm_image.specs.declared.block.Block.{Block}
use Rattle.pm_layout.specs.declared.shape.Shape.{Shape}
use Rattle.solo_view.specs.declared.occ.Occ.{Occ}
use Rattle.solo_view.specs.declared.occ.Occ.TheVariants.{Run, Zone}
use Rattle.solo_view.specs.Blocks.{descriptor_word, zone_of}
use Rattle.solo_view.specs.Founds.{IsAlone}
use Rattle.solo_view.specs.Log.{no_log}
use Rattle.solo_view.specs.Log.Phase.{Idle}
use Rattle.solo_view.specs.Occupancy.{is_taken}
use Rattle.solo_view.specs.Steps.{Step}
use Rattle.solo_view.specs.Steps.Step.{Load, Occupied, Vacate}
use Rattle.solo_view.specs.View.{Taken, View}
use Rattle.solo_view.specs.Views.{has_bit, occ_in, reserves}
use Rattle.solo_world.specs.Heap.{IsOcc, has_taken}
use Rattle.solo_world.specs.Lanes.{IsOfShape}
use Rattle.solo_world.specs.Lawful.{HasOcc}
use Rattle.solo_reclaim.specs.KeptBlocks.{IsKeptBit, Keeps}
use Rattle.solo_reclaim.specs.KnownTaken.{KnowsTaken}
use Rattle.solo_crash.specs.Leading.{Leads}

-- the lane rests alone: its log is empty, with nothing undrained and no line locked, and it knows what is taken
pub record RestsAlone (v : View) : Type 0 where
  pub alone : IsAlone v
  pub idle : v.log ≡ no_log Idle
  pub drained : v.changes ≡ []
  pub free : v.locks ≡ []
  pub taken : KnowsTaken v

-- so it rests in a pool of this shape
pub record MayReclaim (v : View) (shape : Shape) : Type 0 where
  pub rests : RestsAlone v
  pub of_shape : IsOfShape v shape

-- a step of a reclaim: a look at a word of the pool or at an occupancy word, or bits of one given back
abbrev pub IsReclaiming : Step → Type 0
IsReclaiming (Load w found) = Unit {0}
IsReclaiming (Occupied at found) = Unit {0}
IsReclaiming (Vacate at bits) = Unit {0}
IsReclaiming s = ⊥

-- blocks are of occupancy words of the pool, each by some bits of a word of 64
pub record AreOfPool (lanes zones : ℕ) (blocks : List Taken) : Type 0 where
  pub of_pool : All (λ (t : Taken). IsOcc lanes zones t.at) blocks
  pub small : All (λ (t : Taken). t.bits < 2 ^ 64) blocks
  pub some : All (λ (t : Taken). t.bits ≢ 0) blocks

-- Such steps lead from the one view to the other, each allowed, and answered as a lane that is alone is. What the lane has of the heap may change, what it
-- knows and what it saw, and nothing else: its words, changes, log, locks, calls, entries and number are as before. Each bit that is set then was set before,
-- and the lane knows what is taken still. Where all that it reserved, or freed, was of the pool, so is what it has of that then.
pub record Reclaims (v w : View) : Type 0 where
  pub steps : List Step
  pub leads : Leads v steps w
  pub only : All IsReclaiming steps
  pub same : w ≡ record v { run_words = w.run_words; zone_words = w.zone_words; known = w.known; reserved = w.reserved; freed = w.freed; seen = w.seen }
  pub less : (at : Occ) (bit : ℕ) → bit_at (occ_in w at) bit ≡ 1 → bit_at (occ_in v at) bit ≡ 1
  pub taken : KnowsTaken w
  pub reserved : AreOfPool v.lanes v.zones v.reserved → AreOfPool v.lanes v.zones w.reserved
  pub freed : AreOfPool v.lanes v.zones v.freed → AreOfPool v.lanes v.zones w.freed

-- the memory may be seen as a view to which such steps led, and of which this holds
pub record HasReclaimed (at : View → Type 0) (v : View) (Q : View → Type 0) : Type 0 where
  pub view : View
  pub reclaims : Reclaims v view
  pub there : at view
  pub holds : Q view

-- the word has a bit set exactly where the view's words say that what the bit is of is taken
abbrev pub TellsTaken : View → Occ → ℕ → Type 0
TellsTaken v at word = (bit : ℕ) → bit < 64 → (bit_at word bit ≡ 1) ↔ (is_taken (slice_index v.words) v.lanes at bit ≡ true)

-- the lane's picture of the occupancy word is so
abbrev pub IsReclaimed : View → Occ → Type 0
IsReclaimed v at = TellsTaken v at (occ_in v at)

-- the word has a bit set exactly where that is so, or the bit is one of the kept blocks'
abbrev pub TellsLeft : List Block → View → Occ → ℕ → Type 0
TellsLeft kept v at word = (bit : ℕ) → bit < 64 → (bit_at word bit ≡ 1) ↔ ((is_taken (slice_index v.words) v.lanes at bit ≡ true) ⊎ IsKeptBit v.lanes kept at bit)

-- Each occupancy word of the pool has what the words say is taken and what is of the kept blocks, and no other bit. These blocks the lane reserved, and
-- has still; it has reserved nothing else of the pool, and has nothing that it freed: no bit of it, and so no block that is of the pool.
pub record HasLeft (kept : List Block) (w : View) : Type 0 where
  pub left : (at : Occ) → IsOcc w.lanes w.zones at → TellsLeft kept w at (occ_in w at)
  pub keeps : All (Keeps w) kept
  pub reserved : (at : Occ) (bit : ℕ) → IsOcc w.lanes w.zones at → bit < 64 → (reserves w at bit ≡ true) ↔ IsKeptBit w.lanes kept at bit
  pub no_freed_bit : (at : Occ) (bit : ℕ) → IsOcc w.lanes w.zones at → bit < 64 → list_any (has_bit at bit) w.freed ≡ false
  pub none_freed : AreOfPool w.lanes w.zones w.freed → w.freed ≡ []

-- Where it keeps none, each occupancy word of the pool has what the words say is taken, and the lane has nothing that it reserved or freed: no bit of it, and
-- so no block that is of the pool.
pub record HasNothingLeft (w : View) : Type 0 where
  pub reclaimed : (at : Occ) → IsOcc w.lanes w.zones at → IsReclaimed w at
  pub none_left : (at : Occ) (bit : ℕ) → IsOcc w.lanes w.zones at → bit < 64 → has_taken w at bit ≡ false
  pub none_reserved : AreOfPool w.lanes w.zones w.reserved → w.reserved ≡ []
  pub none_freed : AreOfPool w.lanes w.zones w.freed → w.freed ≡ []

-- ---- on the way

-- the lane rests alone in a pool of this shape, and keeps these blocks
pub record MayKeep (v : View) (shape : Shape) (kept : List Block) : Type 0 where
  pub may : MayReclaim v shape
  pub keeps : All (Keeps v) kept

-- and this word tells what is taken of the occupancy word
pub record IsTold (v : View) (shape : Shape) (kept : List Block) (at : Occ) (taken : ℕ) : Type 0 where
  pub rests : MayKeep v shape kept
  pub there : HasOcc v at
  pub tells : TellsTaken v at taken

-- and this is the descriptor of the chunk at the place
pub record IsDescribed (v : View) (shape : Shape) (kept : List Block) (place descriptor : ℕ) : Type 0 where
  pub rests : MayKeep v shape kept
  pub there : HasOcc v (Run place)
  pub described : slice_index v.words (descriptor_word v.lanes (place / 4096)) ≡ descriptor

-- the lane keeps the blocks, and has besides them of these occupancy words what is taken
pub record IsLeft (kept : List Block) (v : View) (these : Occ → Type 0) : Type 0 where
  pub keeps : All (Keeps v) kept
  pub left : (at : Occ) → IsOcc v.lanes v.zones at → these at → TellsLeft kept v at (occ_in v at)

-- the zone that an occupancy word is of: the run's, or its own
abbrev pub zone_in : ℕ → Occ → ℕ
zone_in lanes (Run place) = zone_of lanes (place / 4096)
zone_in lanes (Zone zone) = zone
