-- THE LAWS: how the calls of a world, its crash images and the plain model fit together, for any
-- number of lanes and any choice of survivors.
use Rattle.std.specs.Prelude.{◌≡◌, ℕ, ◌<◌, ◌≤◌, ◌||◌, Bool, true, List, [], slice_index}
use Rattle.pm_header.specs.declared.header.Header.{Header}
use Rattle.pm_objects.specs.declared.pool.PoolView.{PoolView}
use Rattle.pm_view.specs.Log.{is_early}
use Rattle.pm_view.specs.Steps.{Step}
use Rattle.pm_view.specs.Views.{after}
use Rattle.pm_world.specs.Course.{past_after}
use Rattle.pm_world.specs.Crash.{NoneTorn, Survives, is_kept}
use Rattle.pm_world.specs.Laws.{Turn}
use Rattle.pm_world.specs.Lawful.{IsLawful}
use Rattle.pm_world.specs.Memory.{Memory, PoolWord}
use Rattle.pm_world.specs.Moves.{Moves}
use Rattle.pm_world.specs.Runs.{IsRun, IsWorld, LaneStep, Moment}
use Rattle.pm_world.specs.World.{Opening, Views, Past, World}
use Rattle.pm_crash.specs.Calls.{Fact, StepsFrom}
use Rattle.pm_crash.specs.Described.{MemoryHasClasses}
use Rattle.pm_crash.specs.Footprints.{Footprints, KeepsDecided, kept_bits}
use Rattle.pm_crash.specs.Images.{MeansReplay, OpensPool}
use Rattle.pm_crash.specs.Replayed.{HasFacts, HoldsReplay, kept_calls, kept_pending}
use Rattle.pm_crash.specs.Roots.{RootsAreSeen}
use Rattle.pm_crash.specs.Spelled.{Holds}

-- ---- FOOTPRINTS STAND: as a world opens, and after every lawful step

abbrev pub FootprintsBegin : Type 0
FootprintsBegin = (o : Opening) (mem : Memory) (views : Views) (g : Past) (id : ℕ)
    → World o mem views g → g.length ≡ 0
    → ((w : ℕ) → mem (PoolWord w) ≡ slice_index o.words w)
    → ((k : ℕ) → k < o.lanes → (views k).fixed.pool ≡ id)
    → ((k : ℕ) → k < o.lanes → ((views k).claims ≡ []) × ((views k).log.entries ≡ []))
    → Footprints o id views g

abbrev pub KeepsFootprints : Step → Type 0
KeepsFootprints s = (o : Opening) (old mem : Memory) (views new : Views) (g : Past) (id k : ℕ)
    → World o old views g → k < o.lanes → IsLawful (views k) s → Moves k s old mem
    → Turn views new k (after (views k) s)
    → Footprints o id views g → Footprints o id new (past_after g (views k) s)

-- WHAT EACH CALL SAW OF THE ROOT WORD, under locks that its lane held as it took its number, is so
-- of the bits before it, whichever calls are kept
abbrev pub CallsSeeRoots : Type 0
CallsSeeRoots = (o : Opening) (id : ℕ) (views : Views) (g : Past) → Footprints o id views g
    → (keep : ℕ → Bool) → KeepsDecided g keep → (n : ℕ) → n < g.length
    → RootsAreSeen (g.drew n).fixed.shape (g.drew n).claims (kept_bits o g keep n)

-- so every run keeps them, of any lanes in any order
abbrev pub RunsKeepFootprints : Type 0
RunsKeepFootprints = (o : Opening) (id : ℕ) (turns : List LaneStep) (old new : Moment)
    → IsWorld o old → IsRun o old turns new
    → Footprints o id old.views old.past → Footprints o id new.views new.past

-- ---- A CALL WHOSE FACT HOLDS IS A STEP of the model: from whatever pool the kept bits before it
-- hold, whichever calls are kept, the decided ones among them
abbrev pub CallIsStep : Type 0
CallIsStep = (o : Opening) (views : Views) (g : Past) (header : Header)
    → Footprints o header.id views g → (keep : ℕ → Bool) → KeepsDecided g keep
    → (n : ℕ) → n < g.length → Fact (g.drew n) → (pool : PoolView)
    → Holds o.shape g.geo.class (kept_bits o g keep n) header pool
    → StepsFrom (g.drew n) g.geo.class (kept_bits o g keep n) header pool
    (kept_pending keep g.drew n)

-- ---- THE HISTORY HOLDS THE REPLAY, after each number and whichever calls are kept
abbrev pub HistoryHolds : Type 0
HistoryHolds = (o : Opening) (views : Views) (g : Past) (header : Header) (pool : PoolView)
    → Footprints o header.id views g → HasFacts g → OpensPool o header pool
    → (keep : ℕ → Bool) → KeepsDecided g keep → (n : ℕ) → n ≤ g.length
    → HoldsReplay o g keep n header pool

-- of two calls in flight both may be kept, one, or none; and of any number any set: beside the
-- decided calls those that a choice names
abbrev pub EverySetMayBeKept : Type 0
EverySetMayBeKept = (o : Opening) (views : Views) (g : Past) (header : Header) (pool : PoolView)
    → Footprints o header.id views g → HasFacts g → OpensPool o header pool
    → (chosen : ℕ → Bool)
    → HoldsReplay o g (λ n. g.decided n || chosen n) g.length header pool

-- ---- EVERY SURVIVING IMAGE MEANS THE REPLAY of the calls that it keeps
abbrev pub ImagesMeanReplays : Type 0
ImagesMeanReplays = (o : Opening) (mem : Memory) (views : Views) (g : Past) (header : Header)
    (pool : PoolView) (image : List ℕ)
    → World o mem views g → Footprints o header.id views g → MemoryHasClasses o mem
    → HasFacts g → OpensPool o header pool
    → Survives o mem views image → NoneTorn o views image
    → MeansReplay image o.shape.lanes o.shape.zones pool
    (kept_calls (is_kept o views g image) g.drew g.length)
    (kept_pending (is_kept o views g image) g.drew g.length)

-- a lane between calls, or in one that has no number yet, has no call that an image may lose
abbrev pub AnsweredAreKept : Type 0
AnsweredAreKept = (o : Opening) (mem : Memory) (views : Views) (g : Past) (image : List ℕ)
    → World o mem views g → (n : ℕ) → n < g.length
    → is_early (views (g.drew n).fixed.lane).log.phase ≡ true → is_kept o views g image n ≡ true
