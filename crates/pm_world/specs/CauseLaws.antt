-- THE LAWS OF CAUSES: what a refused try, a look and an occupancy word show at their moment; and
-- that
-- from the opening on, by every lawful step of every lane, each answer that a view keeps has its
-- cause.
use Rattle.std.specs.Prelude.{◌≡◌, ◌≢◌, ◌⊎◌, ℕ, ◌+◌, ◌*◌, ◌<◌, true, false, List}
use Rattle.pm_layout.specs.declared.shape.Shape.{Shape}
use Rattle.pm_view.specs.declared.occ.Occ.{Occ}
use Rattle.pm_view.specs.declared.occ.Occ.TheVariants.{Run, Zone}
use Rattle.pm_view.specs.Claims.{holds, run_chunk}
use Rattle.pm_view.specs.Places.{Block, Small, Big, Root}
use Rattle.pm_view.specs.Steps.{Step}
use Rattle.pm_view.specs.Steps.Step.{Occupied, Occupy}
use Rattle.pm_view.specs.View.{Constants}
use Rattle.pm_view.specs.Views.{after}
use Rattle.pm_world.specs.States.{there}
use Rattle.pm_world.specs.Lanes.{valid, is_taken}
use Rattle.pm_world.specs.Memory.{Memory, bit}
use Rattle.pm_world.specs.Moves.{Moves}
use Rattle.pm_world.specs.Lawful.{IsLawful, is_mine}
use Rattle.pm_world.specs.Course.{past_after}
use Rattle.pm_world.specs.Laws.{Turn}
use Rattle.pm_world.specs.Opens.{IsTaken, idle_views}
use Rattle.pm_world.specs.Runs.{LaneStep, Moment, IsRun, IsWorld}
use Rattle.pm_world.specs.World.{Opening, Views, Past, World, ghost_of, settled_words}
use Rattle.pm_world.specs.Causes.{is_refused, Causes}

-- ---- AT THE MOMENT

-- a refused try of a lock shows that another lane holds it
abbrev pub RefusalShowsLock : Type 0
RefusalShowsLock = (o : Opening) (old new : Memory) (views : Views) (g : Past) (k : ℕ) (s : Step)
    (l : ℕ)
    → World o old views g → k < o.lanes → IsLawful (views k) s → Moves k s old new
    → is_refused l s ≡ true
    → (j : ℕ) × (j ≢ k) × (j < o.lanes) × (holds (views j).claims l ≡ true)

-- the block or chunk that bit i of an occupancy word is of
abbrev pub occupied_by : Shape → Occ → ℕ → Block
occupied_by sh (Run place) i = Small (run_chunk sh place) i
occupied_by sh (Zone zone) i = Big (64 * zone + i)

-- each bit of an occupancy word that a lane loads is set exactly where what it is of is taken
abbrev pub LoadShowsTaken : Type 0
LoadShowsTaken = (o : Opening) (old new : Memory) (views : Views) (g : Past) (k found : ℕ)
    (at : Occ) (i : ℕ)
    → World o old views g → k < o.lanes → IsLawful (views k) (Occupied at found)
    → Moves k (Occupied at found) old new → i < 64
    → bit found i ≡ is_taken (settled_words o g) (ghost_of g) (occupied_by o.shape at i)

-- so a bit that is set is of a block that is allocated in the settled words, or some lane's own
abbrev pub IsSomeones : Opening → Views → Past → Block → Type 0
IsSomeones o views g B = (there (settled_words o g) B ≡ true)
    ⊎ ((j : ℕ) × (j < o.lanes) × (is_mine (views j) B ≡ true))

-- or it is of no block of a run; and of a zone, it may be of a run
abbrev pub IsTakenBy : Opening → Views → Past → Block → Type 0
IsTakenBy o views g (Small c i) =
    (valid (ghost_of g) (Small c i) ≡ false) ⊎ IsSomeones o views g (Small c i)
IsTakenBy o views g (Big c) = (g.runs c ≡ true) ⊎ IsSomeones o views g (Big (g.geo.first c))
IsTakenBy o views g Root = Unit {0}

abbrev pub TakenIsSomeones : Type 0
TakenIsSomeones = (o : Opening) (mem : Memory) (views : Views) (g : Past) → World o mem views g
    → (a : Block) → is_taken (settled_words o g) (ghost_of g) a ≡ true → IsTakenBy o views g a

-- bits that could not be got: one of them is taken
abbrev pub RefusalShowsTaken : Type 0
RefusalShowsTaken = (o : Opening) (old new : Memory) (views : Views) (g : Past) (k bits : ℕ)
    (at : Occ)
    → World o old views g → k < o.lanes → IsLawful (views k) (Occupy at bits false)
    → Moves k (Occupy at bits false) old new
    → (i : ℕ) × (i < 64) × (bit bits i ≡ true)
    × (is_taken (settled_words o g) (ghost_of g) (occupied_by o.shape at i) ≡ true)

-- ---- FROM THE OPENING ON

-- a world that opens has its causes: no lane was answered anything
abbrev pub CausesBegin : Type 0
CausesBegin = (o : Opening) (mem : Memory) (fixed : ℕ → Constants) (generation : ℕ → ℕ) (g : Past)
    → IsTaken o mem → g.length ≡ 0 → Causes o mem (idle_views fixed generation) g

-- EVERY LAWFUL STEP OF EVERY LANE KEEPS THEM
abbrev pub KeepsCauses : Step → Type 0
KeepsCauses s = (o : Opening) (old mem : Memory) (views new : Views) (g : Past) (k : ℕ)
    → World o old views g → Causes o old views g → k < o.lanes → IsLawful (views k) s
    → Moves k s old mem → Turn views new k (after (views k) s)
    → Causes o mem new (past_after g (views k) s)

-- so does every run of lawful steps
abbrev pub RunsKeepCauses : Type 0
RunsKeepCauses = (o : Opening) (turns : List LaneStep) (old new : Moment) → IsWorld o old
    → Causes o old.mem old.views old.past → IsRun o old turns new
    → Causes o new.mem new.views new.past
