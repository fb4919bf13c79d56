-- What the parts of a search for free chunks do: looks that reserve nothing, and at the end chunks that are got.
use Rattle.std.specs.Prelude.{◌≡◌, ℕ, ◌+◌, ◌-◌, ◌<◌, ◌≤◌, true, false, bit_and, Contains, List, [], ◌∷◌}
use Rattle.std.specs.Int.{bit_at}
use Rattle.solo_view.specs.declared.occ.Occ.TheVariants.{Zone}
use Rattle.solo_view.specs.Founds.{FoundAlone, IsAlone}
use Rattle.solo_view.specs.Steps.{Step}
use Rattle.solo_view.specs.Steps.Step.{Occupied, Occupy, ZoneTry}
use Rattle.solo_view.specs.View.{View}
use Rattle.solo_view.specs.Views.{after, occ_in}
use Rattle.solo_world.specs.Lawful.{HasOcc, IsEarly, MayOccupy}
use Rattle.solo_world.specs.Searches.{HasSearched, IsKeptBySearch, Searches}
use Rattle.solo_chunks.specs.declared.reserving.Sought.{Sought}
use Rattle.solo_chunks.specs.declared.reserving.Sought.TheVariants.{Got, Full, Busy}
use Rattle.solo_chunks.specs.Chunks.{SawNoneIn, SawOneTaken, chunk_bits, taken_chunks}

-- looks led from the one view to the other: they reserved nothing, and where the lane is alone they found each word as it was
pub record LookedOn (v w : View) : Type 0 where
  pub steps : List Step
  pub searches : Searches v steps w
  pub kept : IsKeptBySearch v w
  pub same : w ≡ record v { zone_words = w.zone_words; zone_locks = w.zone_locks; seen = w.seen }
  pub alone : IsAlone v → w.zone_words ≡ v.zone_words

-- the memory may be seen as a view to which looks led, with the same zones' locks, and of which this holds
pub record HasLooked (at : View → Type 0) (v : View) (Q : View → Type 0) : Type 0 where
  pub view : View
  pub looked : LookedOn v view
  pub locks : view.zone_locks ≡ v.zone_locks
  pub there : at view
  pub holds : Q view

-- ---- so many chunks from one on

-- one of them has its bit set in the word
pub record IsOneSet (word first count : ℕ) : Type 0 where
  pub chunk : ℕ
  pub low : first ≤ chunk
  pub high : chunk < first + count
  pub set : bit_at word chunk ≡ 1

-- the lane holds the lock of this zone alone, and its call has not drawn
pub record HoldsZone (v : View) (zone : ℕ) : Type 0 where
  pub there : HasOcc v (Zone zone)
  pub locked : v.zone_locks ≡ zone ∷ []
  pub early : IsEarly v.log.phase

-- the zone's occupancy word was read, and bits of it may be tried
pub record CanTry (v : View) (zone found : ℕ) : Type 0 where
  pub holds : HoldsZone v zone
  pub saw : Contains v.seen (Occupied (Zone zone) found)
  pub alone : IsAlone v → found ≡ occ_in v (Zone zone)

-- the chunks were got
pub record HasWon (at : View → Type 0) (v : View) (zone first count : ℕ) : Type 0 where
  pub may : MayOccupy v (Zone zone) (chunk_bits first count)
  pub there : at (after v (Occupy (Zone zone) (chunk_bits first count) true))
  pub found : FoundAlone v (Occupy (Zone zone) (chunk_bits first count) true)

-- one of them was seen taken
pub record HasLost (at : View → Type 0) (v : View) (zone first count : ℕ) : Type 0 where
  pub looks : HasLooked at v (λ w. SawOneTaken w zone first count)
  pub taken : IsAlone v → IsOneSet (occ_in v (Zone zone)) first count

-- ---- the chunks of a zone

-- where the lane is alone, of so many chunks from any of the first n on one is taken
abbrev pub AreTaken : View → ℕ → ℕ → ℕ → Type 0
AreTaken v zone count n = IsAlone v → (first : ℕ) → first < n → IsOneSet (occ_in v (Zone zone)) first count

-- of so many chunks from any of the first n on one was seen taken
pub record HasNoneBelow (at : View → Type 0) (v : View) (zone count n : ℕ) : Type 0 where
  pub looks : HasLooked at v (λ w. (first : ℕ) → first < n → SawOneTaken w zone first count)
  pub taken : AreTaken v zone count n

-- the chunks from this one on were got, and those before it were seen taken
pub record HasGotIn (at : View → Type 0) (v : View) (zone first count : ℕ) : Type 0 where
  pub in_zone : first + count ≤ 64
  pub from : View
  pub looked : LookedOn v from
  pub locks : from.zone_locks ≡ v.zone_locks
  pub won : HasWon at from zone first count
  pub lower : AreTaken v zone count first

-- ---- a zone

-- the chunks from this one on were got under the zone's lock, and those before it were seen taken
pub record HasGotOf (at : View → Type 0) (v : View) (zone first count : ℕ) : Type 0 where
  pub in_zone : first + count ≤ 64
  pub searched : HasSearched at v (taken_chunks zone first count ∷ []) (λ w. Unit {0})
  pub clear : IsAlone v → bit_and (occ_in v (Zone zone)) (chunk_bits first count) ≡ 0
  pub lower : AreTaken v zone count first

-- the zone was seen to have none
pub record HasNoneOf (at : View → Type 0) (v : View) (zone count : ℕ) : Type 0 where
  pub looks : HasLooked at v (λ w. SawNoneIn w zone count)
  pub taken : AreTaken v zone count (65 - count)

-- the zone's lock was another lane's
pub record IsRefused (at : View → Type 0) (v : View) (zone : ℕ) : Type 0 where
  pub looks : HasLooked at v (λ w. Contains w.seen (ZoneTry zone false))
  pub apart : IsAlone v → ⊥

-- what the search in a zone leaves
abbrev pub ZoneEnds : (View → Type 0) → View → ℕ → ℕ → Sought → Type 0
ZoneEnds at v zone count (Got first) = HasGotOf at v zone first count
ZoneEnds at v zone count Full = HasNoneOf at v zone count
ZoneEnds at v zone count Busy = IsRefused at v zone
