-- WHAT REPORTS NEED OF A WORLD.
use Rattle.std.specs.Prelude.{◌≡◌, ◌≢◌, ℕ, ◌+◌, ◌<◌, true}
use Rattle.pm_layout.specs.Areas.{greatest_generation}
use Rattle.pm_view.specs.Counts.{IsAtStop}
use Rattle.pm_view.specs.Places.{Block}
use Rattle.pm_world.specs.Lanes.{is_occupancy, is_taken}
use Rattle.pm_world.specs.Memory.{Memory, CommitCounter, StopWord, cells_of}
use Rattle.pm_world.specs.World.{Opening, Views, Past, ghost_of, settled_words, may_draw_count, World}

-- numbers do not run out: those drawn, and the lanes that may still take one, are few enough
abbrev pub NumbersLast : Type 0
NumbersLast = (o : Opening) (mem : Memory) (views : Views) (g : Past) → World o mem views g
    → mem CommitCounter + may_draw_count views o.lanes < greatest_generation o.shape + 32

-- a stop word that is set shows a lane at its stop number
abbrev pub StopIsShown : Type 0
StopIsShown = (o : Opening) (mem : Memory) (views : Views) (g : Past) → World o mem views g
    → mem StopWord ≢ 0 → (k : ℕ) × (k < o.lanes) × IsAtStop (views k)

-- an occupancy bit of the pool is set exactly where its block is allocated in the settled words or
-- some lane's own, where it is none of its run's blocks, or where its chunk is a run
abbrev pub OccupancyIsExact : Type 0
OccupancyIsExact = (o : Opening) (mem : Memory) (views : Views) (g : Past) → World o mem views g
    → (a : Block) → is_occupancy o.shape a ≡ true
    → (cells_of o.shape mem).occ a ≡ is_taken (settled_words o g) (ghost_of g) a
