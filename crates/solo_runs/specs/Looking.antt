-- What the parts of a search for a free block do: looks that reserve nothing, and at the end one bit that is got. Chunks, pages and places are those of a
-- pool of so many lanes.
use Rattle.std.specs.Prelude.{◌≡◌, ◌≢◌, ◌⊎◌, ℕ, ◌*◌, ◌^◌, ◌<◌, true, Contains, List, slice_index}
use Rattle.std.specs.Int.{bit_at}
use Rattle.pm_layout.specs.Sizes.{blocks_of}
use Rattle.pm_image.specs.declared.block.Block.{Block}
use Rattle.solo_view.specs.declared.occ.Occ.TheVariants.{Run}
use Rattle.solo_view.specs.Founds.{FoundAlone, IsAlone}
use Rattle.solo_view.specs.Steps.{Step}
use Rattle.solo_view.specs.Steps.Step.{Load, Occupied, Occupy}
use Rattle.solo_view.specs.View.{View}
use Rattle.solo_view.specs.Views.{after, occ_in}
use Rattle.solo_world.specs.Lawful.{HasOcc, IsEarly, IsSeenRun}
use Rattle.solo_world.specs.Searches.{IsKeptBySearch, Searches, SawTaken}
use Rattle.solo_runs.specs.Runs.{page_of, run_of, run_descriptor, descriptor_at, run_block}

-- looks led from the one view to the other: they reserved nothing, and where the lane is alone they found each word as it was
pub record LookedOn (v w : View) : Type 0 where
  pub steps : List Step
  pub searches : Searches v steps w
  pub kept : IsKeptBySearch v w
  pub same : w ≡ record v { words = w.words; known = w.known; run_words = w.run_words; locks = w.locks; seen = w.seen }
  pub alone : IsAlone v → (w.words ≡ v.words) × (w.run_words ≡ v.run_words)

-- the memory may be seen as a view to which looks led, and of which this holds
pub record HasLooked (at : View → Type 0) (v : View) (Q : View → Type 0) : Type 0 where
  pub view : View
  pub looked : LookedOn v view
  pub there : at view
  pub holds : Q view

-- ---- one block of a run

-- the chunk was seen to be a run, whose occupancy word was read, and its bits may be tried
pub record CanTry (v : View) (place found : ℕ) : Type 0 where
  pub there : HasOcc v (Run place)
  pub run : IsSeenRun v (Run place)
  pub early : IsEarly v.log.phase
  pub saw : Contains v.seen (Occupied (Run place) found)
  pub alone : IsAlone v → found ≡ occ_in v (Run place)

-- the bit was got
pub record HasWon (at : View → Type 0) (v : View) (place index : ℕ) : Type 0 where
  pub there : at (after v (Occupy (Run place) (2 ^ index) true))
  pub found : FoundAlone v (Occupy (Run place) (2 ^ index) true)

-- the bit was seen set, and no word of the pool was looked at
pub record HasLost (at : View → Type 0) (v : View) (place index : ℕ) : Type 0 where
  pub looks : HasLooked at v (λ w. (w.words ≡ v.words) × SawTaken w (Run place) index)
  pub taken : IsAlone v → bit_at (occ_in v (Run place)) index ≡ 1

-- ---- the blocks of a run

-- by the view's words the chunk is a run of the class
abbrev pub IsRunOf : View → ℕ → ℕ → ℕ → Type 0
IsRunOf v lanes class chunk = slice_index v.words (descriptor_at lanes chunk) ≡ run_descriptor class

-- where the lane is alone, these first blocks of the run are taken
abbrev pub AreTaken : View → ℕ → ℕ → ℕ → Type 0
AreTaken v lanes chunk n = IsAlone v → (k : ℕ) → k < n → bit_at (occ_in v (run_of lanes chunk)) k ≡ 1

-- these first blocks of the run were seen taken
pub record HasNoneBelow (at : View → Type 0) (v : View) (lanes chunk n : ℕ) : Type 0 where
  pub looks : HasLooked at v (λ w. (k : ℕ) → k < n → SawTaken w (run_of lanes chunk) k)
  pub taken : AreTaken v lanes chunk n

-- a block of the run was got, and those before it were seen taken
pub record HasGotIn (at : View → Type 0) (v : View) (lanes class chunk : ℕ) (block : Block) : Type 0 where
  pub index : ℕ
  pub in_run : index < blocks_of class
  pub is_block : block ≡ run_block lanes chunk class index
  pub from : View
  pub looked : LookedOn v from
  pub run : IsRunOf from lanes class chunk
  pub won : HasWon at from (4096 * page_of lanes chunk) index
  pub lower : AreTaken v lanes chunk index

-- ---- a chunk

-- the chunk was seen not to be a run of the class, or each of its blocks was seen taken
abbrev pub SawNone : ℕ → ℕ → ℕ → View → Type 0
SawNone lanes class chunk w =
    ((found : ℕ) × (Contains w.seen (Load (descriptor_at lanes chunk) found) × (found ≢ run_descriptor class)))
    ⊎ ((index : ℕ) → index < blocks_of class → SawTaken w (run_of lanes chunk) index)

-- where the lane is alone, the chunk has no free block of the class
abbrev pub HasNoFree : View → ℕ → ℕ → ℕ → Type 0
HasNoFree v lanes class chunk = IsAlone v → IsRunOf v lanes class chunk → (k : ℕ) → k < blocks_of class → bit_at (occ_in v (run_of lanes chunk)) k ≡ 1

pub record HasNoneOf (at : View → Type 0) (v : View) (lanes class chunk : ℕ) : Type 0 where
  pub looks : HasLooked at v (λ w. SawNone lanes class chunk w)
  pub none : HasNoFree v lanes class chunk

-- the chunk was seen to be a run of the class, and then a block of it was got
pub record HasGotOf (at : View → Type 0) (v : View) (lanes class chunk : ℕ) (block : Block) : Type 0 where
  pub view : View
  pub looked : LookedOn v view
  pub saw : Contains view.seen (Load (descriptor_at lanes chunk) (run_descriptor class))
  pub is_run : IsAlone v → IsRunOf v lanes class chunk
  pub got : HasGotIn at view lanes class chunk block
