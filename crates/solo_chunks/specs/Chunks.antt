-- The search for free chunks of a zone that lie one after another, zone by zone and by rising place in each: docs/FORMAT.md, "Blocks are found".
use Rattle.std.specs.Prelude.{◌≡◌, ◌≢◌, ◌⊎◌, ℕ, ◌+◌, ◌-◌, ◌*◌, ◌^◌, ◌<◌, ◌≤◌, Contains, false, [], ◌∷◌, Result, Ok, Err}
use Rattle.std.specs.Int.{bit_at}
use Rattle.pm_objects.specs.declared.refusal.Refusal.{Refusal}
use Rattle.pm_objects.specs.declared.refusal.Refusal.TheVariants as refusal
use Rattle.pm_image.specs.declared.block.Block.{Block}
use Rattle.pm_layout.specs.declared.shape.Shape.{Shape}
use Rattle.solo_view.specs.declared.occ.Occ.TheVariants.{Zone}
use Rattle.solo_view.specs.Steps.Step.{Occupied, Occupy, ZoneTry}
use Rattle.solo_view.specs.View.{View, Taken}
use Rattle.solo_view.specs.Views.{occ_in}
use Rattle.solo_world.specs.Lanes.{IsOfShape}
use Rattle.solo_world.specs.Lawful.{IsEarly, MayVacate}
use Rattle.solo_world.specs.Searches.{HasSearched}

-- the bits of so many chunks from one on, and what a lane has then
abbrev pub chunk_bits : ℕ → ℕ → ℕ
chunk_bits first count = 2 ^ first * (2 ^ count - 1)

abbrev pub taken_chunks : ℕ → ℕ → ℕ → Taken
taken_chunks zone first count = record { at = Zone zone; bits = chunk_bits first count }

-- the block of whole chunks that begins at this chunk of the zone, 0 for the first
abbrev pub chunk_block : ℕ → ℕ → ℕ → ℕ → Block
chunk_block lanes zone first count = record { place = 4096 * (2 + 2 * lanes + 65 * zone + first); lines = 64 * count }

-- a lane of a pool of this shape may look for chunks: before its call's draw, while it holds no zone's lock
pub record MaySearch (v : View) (of : Shape) : Type 0 where
  pub shape : IsOfShape v of
  pub early : IsEarly v.log.phase
  pub unlocked : v.zone_locks ≡ []

-- the block is one of whole chunks of a zone, and their bits of its occupancy word may be given back
pub record MayGiveBack (v : View) (block : Block) : Type 0 where
  pub zone : ℕ
  pub first : ℕ
  pub count : ℕ
  pub some : 1 ≤ count
  pub in_zone : first + count ≤ 64
  pub is_block : block ≡ chunk_block v.lanes zone first count
  pub may : MayVacate v (Zone zone) (chunk_bits first count)

-- the chunks were got, all in one zone
pub record HasGot (at : View → Type 0) (v : View) (count : ℕ) (block : Block) : Type 0 where
  pub zone : ℕ
  pub first : ℕ
  pub in_zones : zone < v.zones
  pub in_zone : first + count ≤ 64
  pub is_block : block ≡ chunk_block v.lanes zone first count
  pub searched : HasSearched at v (taken_chunks zone first count ∷ []) (λ w. Unit {0})

-- the chunk's bit was seen set in the zone's word that was read
abbrev pub SawSet : View → ℕ → ℕ → Type 0
SawSet w zone chunk = (found : ℕ) × (Contains w.seen (Occupied (Zone zone) found) × (bit_at found chunk ≡ 1))

-- one of so many chunks from this one on was seen taken: its bit was seen set, or their bits were tried and not all of them were clear
abbrev pub SawOneTaken : View → ℕ → ℕ → ℕ → Type 0
SawOneTaken w zone first count =
    ((chunk : ℕ) × ((first ≤ chunk) × (chunk < first + count) × SawSet w zone chunk))
    ⊎ Contains w.seen (Occupy (Zone zone) (chunk_bits first count) false)

-- of the zone, wherever so many chunks would begin, one of them was seen taken
abbrev pub SawNoneIn : View → ℕ → ℕ → Type 0
SawNoneIn w zone count = (first : ℕ) → first + count ≤ 64 → SawOneTaken w zone first count

-- no zone had them
abbrev pub HasFoundNone : (View → Type 0) → View → ℕ → Type 0
HasFoundNone at v count = HasSearched at v [] (λ w. (zone : ℕ) → zone < v.zones → SawNoneIn w zone count)

-- a zone's lock was another lane's
abbrev pub IsBusy : (View → Type 0) → View → Type 0
IsBusy at v = HasSearched at v [] (λ w. (zone : ℕ) × ((zone < v.zones) × Contains w.seen (ZoneTry zone false)))

-- what an answer leaves
abbrev pub ReserveEnds : (View → Type 0) → View → ℕ → Result Block Refusal → Type 0
ReserveEnds at v count (Ok block) = HasGot at v count block
ReserveEnds at v count (Err refusal.NoSpace) = HasFoundNone at v count
ReserveEnds at v count (Err refusal.Busy) = IsBusy at v
ReserveEnds at v count (Err r) = ⊥

-- ---- where a lane is alone, and its pictures are the words

-- so many chunks of the zone from this one on are free, as the lane has them
pub record AreFree (v : View) (count zone first : ℕ) : Type 0 where
  pub in_zones : zone < v.zones
  pub in_zone : first + count ≤ 64
  pub clear : (chunk : ℕ) → first ≤ chunk → chunk < first + count → bit_at (occ_in v (Zone zone)) chunk ≢ 1

-- the one place comes before the other in the search
abbrev pub IsBefore : ℕ → ℕ → ℕ → ℕ → Type 0
IsBefore zone first other place = (zone < other) ⊎ ((zone ≡ other) × (first < place))

-- they are the least free ones
pub record AreLeastFree (v : View) (count : ℕ) (block : Block) : Type 0 where
  pub zone : ℕ
  pub first : ℕ
  pub is_block : block ≡ chunk_block v.lanes zone first count
  pub free : AreFree v count zone first
  pub least : (other place : ℕ) → IsBefore other place zone first → AreFree v count other place → ⊥

-- the least free ones, or there are none; alone, no zone's lock is refused
abbrev pub IsLeast : View → ℕ → Result Block Refusal → Type 0
IsLeast v count (Ok block) = AreLeastFree v count block
IsLeast v count (Err refusal.NoSpace) = (zone first : ℕ) → AreFree v count zone first → ⊥
IsLeast v count (Err r) = ⊥
