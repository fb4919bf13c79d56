-- THE MEMORY OF ONE LANE AS A WORLD'S: what its calls do to the words that lanes share, and what a
-- power failure may leave of them.
use Rattle.std.specs.Prelude.{◌≡◌, ℕ, ◌<◌, ◌≤◌, cond, Bool, false, All, List, length, slice_index, slice_index_or}
use Rattle.pm_view.specs.declared.change.Change.{Change}
use Rattle.pm_view.specs.Changes.{IsFormed}
use Rattle.pm_view.specs.Steps.{Step}
use Rattle.pm_view.specs.Views.{after}
use Rattle.pm_memory.specs.Changes.{AreUndrained}
use Rattle.pm_memory.specs.Solo.{Solo, Sees, CanStep}
use Rattle.pm_memory.specs.SoloCalls.{Calls}
use Rattle.pm_memory.specs.Survivors as memory
use Rattle.pm_world.specs.Course.{past_after}
use Rattle.pm_world.specs.Crash as world
use Rattle.pm_world.specs.Lawful.{IsLawful}
use Rattle.pm_world.specs.Laws.{Turn}
use Rattle.pm_world.specs.Memory.{Memory, PoolWord, LockWord, RunWord, ZoneWord, ZoneLock, CommitCounter, StopWord}
use Rattle.pm_world.specs.Moves.{Moves}
use Rattle.pm_world.specs.World.{Opening, Views, Past, World}

-- words by their location: of the pool, of locks, of occupancy, of the zones' locks, of which lane 0
-- has those that are taken; the commit counter, and whether the stop word is set
abbrev pub memory_by : List ℕ → List ℕ → List ℕ → List ℕ → List Bool → ℕ → Bool → Memory
memory_by words locks runs zones zone_locks number stopped (PoolWord w) = slice_index words w
memory_by words locks runs zones zone_locks number stopped (LockWord l) = slice_index locks l
memory_by words locks runs zones zone_locks number stopped (RunWord p) = slice_index runs p
memory_by words locks runs zones zone_locks number stopped (ZoneWord z) = slice_index zones z
memory_by words locks runs zones zone_locks number stopped (ZoneLock z) = cond (slice_index_or zone_locks z false) 1 0
memory_by words locks runs zones zone_locks number stopped CommitCounter = number
memory_by words locks runs zones zone_locks number stopped StopWord = cond stopped 1 0

abbrev pub memory_of : Solo → Memory
memory_of m = memory_by m.words m.locks m.runs m.zones m.zone_locks m.number m.stopped

-- EACH CALL IS ONE STEP of lane 0 on the words
abbrev pub CallsMove : Step → Type 0
CallsMove s = (old new : Solo) → CanStep old s → Calls s old new → Moves 0 s (memory_of old) (memory_of new)

-- OF A WORLD WHOSE WORDS ARE THE MEMORY'S each call that lane 0's view allows leads to one whose words are
-- the memory's after it
abbrev pub CallsKeepWorlds : Step → Type 0
CallsKeepWorlds s = (o : Opening) (old new : Solo) (views next : Views) (g : Past) → World o (memory_of old) views g → Sees old (views 0) → IsLawful (views 0) s → Calls s old new
    → Turn views next 0 (after (views 0) s) → World o (memory_of new) next (past_after g (views 0) s)

-- and its undrained changes stay formed
abbrev pub CallsKeepForms : Step → Type 0
CallsKeepForms s = (o : Opening) (old new : Solo) (views : Views) (g : Past) → World o (memory_of old) views g → IsLawful (views 0) s → Calls s old new → All IsFormed old.changes → All IsFormed new.changes

-- the undrained changes of each lane, as a memory keeps them, are those of its view, and formed
pub record AreLanesChanges (views : Views) (lanes : List (List Change)) : Type 0 where
  pub each : (k : ℕ) (d : List Change) → k < length lanes → AreUndrained (slice_index_or lanes k d) (views k).changes
  pub formed : All (All IsFormed) lanes

-- WHAT A POWER FAILURE MAY LEAVE of a memory's words it may leave of the world's, of any number of lanes
abbrev pub SurvivorsAreTheWorlds : Type 0
SurvivorsAreTheWorlds = (o : Opening) (mem : Memory) (views : Views) (words image : List ℕ) (lanes : List (List Change)) → length words ≡ length o.words → length lanes ≤ o.lanes
    → ((w : ℕ) → w < length words → mem (PoolWord w) ≡ slice_index words w) → AreLanesChanges views lanes → memory.Survives words lanes image → world.Survives o mem views image
