-- What a lane does that looks for free blocks or chunks: descriptors and occupancy words are read, bits of these are tried, and zones' locks are
-- taken and given back. No call of it is counted.
use Rattle.std.specs.Prelude.{◌≡◌, ◌⊎◌, ℕ, Bool, true, false, IsTrue, Contains, List, [], ◌∷◌, ◌++◌, length, slice_index}
use Rattle.std.specs.Int.{bit_at}
use Rattle.solo_view.specs.declared.occ.Occ.{Occ}
use Rattle.solo_view.specs.Founds.{Found, FoundAlone}
use Rattle.solo_view.specs.Steps.{Step}
use Rattle.solo_view.specs.Steps.Step.{Load, Occupied, Occupy, ZoneGive, ZoneTry}
use Rattle.solo_view.specs.View.{View, Taken}
use Rattle.solo_view.specs.Views.{after}
use Rattle.solo_world.specs.Lawful.{Allowed}

abbrev pub is_search : Step → Bool
is_search (Load w found) = true
is_search (Occupied at found) = true
is_search (Occupy at bits won) = true
is_search (ZoneTry zone won) = true
is_search (ZoneGive zone) = true
is_search s = false

-- such steps lead from the one view to the other: the lane may ask for each, and is answered as its view knows, and as one that is alone where it is
unfoldable pub Searches : View → List Step → View → Type 0
Searches v [] w = w ≡ v
Searches v (s ∷ steps) w = IsTrue (is_search s) × Allowed v s × Found v s × FoundAlone v s × Searches (after v s) steps w

-- what a search keeps: all but words that the lane did not know, locks and occupancy words as they were found, zones' locks, what it reserved, and what
-- it saw, which only grows
pub record IsKeptBySearch (v w : View) : Type 0 where
  pub same : w ≡ record v { words = w.words; known = w.known; run_words = w.run_words; zone_words = w.zone_words; locks = w.locks; zone_locks = w.zone_locks; reserved = w.reserved; seen = w.seen }
  pub words : length w.words ≡ length v.words
  pub run_words : length w.run_words ≡ length v.run_words
  pub zone_words : length w.zone_words ≡ length v.zone_words
  pub remembers : (s : Step) → Contains v.seen s → Contains w.seen s
  pub known : (u : ℕ) → Contains v.known u → Contains w.known u
  pub values : (u : ℕ) → Contains v.known u → slice_index w.words u ≡ slice_index v.words u

-- the memory may be seen as a view to which such steps led, which reserved these blocks besides, and of which this holds
pub record HasSearched (at : View → Type 0) (v : View) (more : List Taken) (Q : View → Type 0) : Type 0 where
  pub view : View
  pub steps : List Step
  pub searches : Searches v steps view
  pub kept : IsKeptBySearch v view
  pub there : at view
  pub reserved : view.reserved ≡ v.reserved ++ more
  pub zones : view.zone_locks ≡ v.zone_locks
  pub holds : Q view

-- the bit was seen set: in the word that was read, or as bits were tried, of which it is the only one
abbrev pub SawTaken : View → Occ → ℕ → Type 0
SawTaken v at bit = ((found : ℕ) × (Contains v.seen (Occupied at found) × (bit_at found bit ≡ 1))) ⊎ ((bits : ℕ) × (Contains v.seen (Occupy at bits false) × (bit_at bits bit ≡ 1)))
