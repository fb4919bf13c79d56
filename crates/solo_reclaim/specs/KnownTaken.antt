-- What a lane that is alone knows of what is taken: its pictures of the occupancy words are what its words say, and what it has (docs/FORMAT.md, "Volatile words").
use Rattle.std.specs.Prelude.{◌≡◌, ◌⊎◌, ◌↔◌, ℕ, ◌+◌, ◌*◌, ◌<◌, true, false, length, slice_index}
use Rattle.std.specs.Int.{bit_at}
use Rattle.std.specs.List.{list_any}
use Rattle.solo_view.specs.declared.occ.Occ.{Occ}
use Rattle.solo_view.specs.Occupancy.{is_taken}
use Rattle.solo_view.specs.Steps.{Step}
use Rattle.solo_view.specs.Steps.Step.{Give, Vacate, ZoneGive}
use Rattle.solo_view.specs.View.{View}
use Rattle.solo_view.specs.Views.{has_bit, occ_in, reserves}
use Rattle.solo_world.specs.Heap.{IsOcc, has_taken}

-- a step by which a lane gives back: a line's lock, a zone's, or what it reserved or freed
abbrev pub IsGiving : Step → Type 0
IsGiving (Give line) = Unit {0}
IsGiving (ZoneGive zone) = Unit {0}
IsGiving (Vacate at bits) = Unit {0}
IsGiving s = ⊥

-- the lane reserved what the bit is of, or freed it and has not given it back
abbrev pub IsKept : View → Occ → ℕ → Type 0
IsKept v at bit = (reserves v at bit ≡ true) ⊎ (list_any (has_bit at bit) v.freed ≡ true)

-- Each bit of the lane's picture of an occupancy word is set exactly where what it is of is taken by its words, or the lane has it; what it reserved, or
-- freed, is not taken by its words; and nothing that it reserved has it freed.
pub record KnowsTaken (v : View) : Type 0 where
  pub pages : length v.run_words ≡ 1 + 2 * v.lanes + 65 * v.zones
  pub zone_count : length v.zone_words ≡ 32
  pub bits : (at : Occ) (bit : ℕ) → IsOcc v.lanes v.zones at → bit < 64 → (bit_at (occ_in v at) bit ≡ 1) ↔ ((is_taken (slice_index v.words) v.lanes at bit ≡ true) ⊎ (has_taken v at bit ≡ true))
  pub apart : (at : Occ) (bit : ℕ) → IsOcc v.lanes v.zones at → bit < 64 → IsKept v at bit → is_taken (slice_index v.words) v.lanes at bit ≡ false
  pub once : (at : Occ) (bit : ℕ) → IsOcc v.lanes v.zones at → bit < 64 → reserves v at bit ≡ true → list_any (has_bit at bit) v.freed ≡ false
