-- THE MEMORY OF ONE LANE IN ITS WORLD: a lane's memory that stands in a world which began so.
use Rattle.std.specs.Prelude.{◌≡◌, ℕ, ◌/◌, All, List, [], ◌∷◌, length, Option}
use Rattle.pm_layout.specs.declared.shape.Shape.{Shape}
use Rattle.pm_view.specs.Changes.{IsFormed}
use Rattle.pm_view.specs.Steps.{Step}
use Rattle.pm_view.specs.View.{View, Constants, idle}
use Rattle.pm_view.specs.Views.{after}
use Rattle.pm_memory.specs.Solo.{Solo, Sees, opened_with}
use Rattle.pm_memory.specs.SoloCalls.{Calls}
use Rattle.pm_memory.specs.Survivors as memory
use Rattle.pm_world.specs.Crash as world
use Rattle.pm_world.specs.Causes.{Causes}
use Rattle.pm_world.specs.Lanes.{Ghost}
use Rattle.pm_world.specs.Lawful.{IsLawful}
use Rattle.pm_world.specs.Laws.{History}
use Rattle.pm_world.specs.Opens.{IsStart, IsTaken, OpensIdle}
use Rattle.pm_world.specs.Sizes.{ObjectsFit}
use Rattle.pm_world.specs.SoloWorld.{memory_of}
use Rattle.pm_world.specs.States.{State}
use Rattle.pm_world.specs.World.{Opening, Views, Past, World}

-- there is a world that began so, whose words are the memory's, where lane 0's view is v; each call of
-- its history finds what it knew, and each answer that the lane keeps has its cause
pub record Stands (o : Opening) (m : Solo) (v : View) : Type 0 where
  pub views : Views
  pub past : Past
  pub was : ℕ → State
  pub ghosts : ℕ → Ghost
  pub here : views 0 ≡ v
  pub world : World o (memory_of m) views past
  pub sizes : ObjectsFit o past
  pub causes : Causes o (memory_of m) views past
  pub history : History o past was ghosts
  pub sees : Sees m v
  pub formed : All IsFormed m.changes

-- lane 0 of a pool where no other lane runs
abbrev pub only_lane : Shape → ℕ → Option ℕ → Constants
only_lane sh pool stop = record { shape = sh; pool = pool; lane = 0; stop = stop; lanes = 1 }

-- A LANE MAY BE SEEN AS THE VIEWS with which its memory stands in some world
abbrev pub StandsAs : Solo → View → Type 0
StandsAs m v = (o : Opening) × Stands o m v

-- A MEMORY BEFORE ITS FIRST CALL is that of one lane before any step
abbrev pub OpenedStarts : Type 0
OpenedStarts = (o : Opening) (fixed : ℕ → Constants) (stop : Option ℕ) (runs zones : List ℕ) → o.lanes ≡ 1
    → ((k : ℕ) → (fixed k).lane ≡ k) → ((k : ℕ) → (fixed k).shape ≡ o.shape) → ((k : ℕ) → (fixed k).lanes ≡ 1) → IsStart o (memory_of (opened_with o.words stop runs zones)) fixed

-- IT STANDS IN THE WORLD that its words open
abbrev pub OpenedStands : Type 0
OpenedStands = (o : Opening) (fixed : ℕ → Constants) (generation : ℕ → ℕ) (runs zones : List ℕ) → (fixed 0).lane ≡ 0 → (fixed 0).lanes ≡ 1 → (fixed 0).shape ≡ o.shape → length runs ≡ length o.words / 512 → length zones ≡ 32
    → IsTaken o (memory_of (opened_with o.words (fixed 0).stop runs zones))
    → OpensIdle o (memory_of (opened_with o.words (fixed 0).stop runs zones)) fixed generation → Stands o (opened_with o.words (fixed 0).stop runs zones) (idle (fixed 0) (generation 0))

-- AND IN THE WORLD AFTER each call that lane 0's view allows
abbrev pub StandsAfter : Step → Type 0
StandsAfter s = (o : Opening) (old new : Solo) (v : View) → Stands o old v → IsLawful v s → Calls s old new → Sees new (after v s) → Stands o new (after v s)

-- an image may be left of each world in which the memory stands
abbrev pub SurvivesInWorlds : Solo → List ℕ → Type 0
SurvivesInWorlds m image = (o : Opening) (v : View) (s : Stands o m v) → world.Survives o (memory_of m) s.views image

-- SO IS WHAT SURVIVES of the memory
abbrev pub StandingSurvives : Type 0
StandingSurvives = (m : Solo) (image : List ℕ) → memory.Survives m.words (m.changes ∷ []) image → SurvivesInWorlds m image
