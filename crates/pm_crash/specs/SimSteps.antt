-- THE STEPS OF AN OPEN CALL: after each of them the lane knows no less of the bits before its call.
use Rattle.std.specs.Prelude.{◌≡◌, ◌≢◌, ℕ, ◌<◌, Bool, true, false, List, [], ◌∷◌}
use Rattle.pm_view.specs.Changes.{Undrained}
use Rattle.pm_view.specs.Claims.{is_among, making}
use Rattle.pm_view.specs.Entries.{Entry}
use Rattle.pm_view.specs.Log.{Open, Voiding}
use Rattle.pm_view.specs.Places.{Place, Block, Big}
use Rattle.pm_view.specs.Steps.{Step}
use Rattle.pm_view.specs.Steps.Step.{Drain, Give, Vacate, Draw, Tell}
use Rattle.pm_view.specs.View.{Seen, View}
use Rattle.pm_view.specs.Views.{after}
use Rattle.pm_world.specs.Laws.{Turn}
use Rattle.pm_world.specs.Lawful.{IsLawful, is_guarded, offset_in}
use Rattle.pm_world.specs.Memory.{Memory}
use Rattle.pm_world.specs.Runs.{IsWorld, LaneStep, Leads, Moment}
use Rattle.pm_world.specs.Sights.{is_recorded}
use Rattle.pm_world.specs.Moves.{Moves}
use Rattle.pm_world.specs.World.{Opening, Views, Past, World}
use Rattle.pm_crash.specs.Roots.{saw_root}
use Rattle.pm_crash.specs.Sim.{Grows, IsInObject, SameBits, Sim, is_kept_block, sees_at}

-- the step tells no operation and draws no number
abbrev pub goes_on : View → Step → Bool
goes_on v (Draw n) = false
goes_on v (Tell operation reply) = false
goes_on v s = true

-- IT GIVES UP NOTHING that the call rests on: no lock goes back under which the root word was
-- seen; and the blocks that are to be objects stay the lane's own
abbrev pub GivesUpNothing : View → Bool → Step → Type 0
GivesUpNothing v kept (Give line) =
    (line ≢ 0) × ((value : ℕ) → saw_root v.fixed.shape v.claims line value ≡ false)
GivesUpNothing v kept (Vacate at bits) = (B : Block) → is_kept_block v kept B ≡ true
    → is_among v.fixed.shape at bits B ≡ false
GivesUpNothing v kept Drain = (c : ℕ) → is_kept_block v kept (Big c) ≡ true
    → making v.fixed.shape v.claims c ≡ false
GivesUpNothing v kept s = Unit {0}

-- a lawful step of a lane of a world, in an open call
pub record IsStep (o : Opening) (old mem : Memory) (views new : Views) (g : Past) (k : ℕ) (s : Step)
    : Type 0 where
  pub world : World o old views g
  pub runs : k < o.lanes
  pub is_open : (views k).log.phase ≡ Open
  pub lawful : IsLawful (views k) s
  pub moves : Moves k s old mem
  pub turn : Turn views new k (after (views k) s)
  pub goes : goes_on (views k) s ≡ true

-- THE LANE KNOWS NO LESS after it
abbrev pub StepsGrow : Step → Type 0
StepsGrow s = (o : Opening) (old mem : Memory) (views new : Views) (g : Past) (k : ℕ) (kept : Bool)
    → IsStep o old mem views new g k s → GivesUpNothing (views k) kept s
    → Grows (views k) kept (after (views k) s) kept

-- a step that teaches nothing of bits leaves what it knows, in whatever phase
abbrev pub QuietStepsGrow : Type 0
QuietStepsGrow = (v : View) (kept : Bool) (changes : List Undrained) (calls : List Step)
    (occupancy : List Seen) (zones : List ℕ) (seen : List Step) → Grows v kept (record v {
      changes = changes;
      calls = calls;
      occupancy = occupancy;
      zones = zones;
      seen = seen;
    }) kept

-- WHAT IT RECORDED it knows to be an object's, whose size it knew as it recorded the word; no
-- record is of the word that has a size. So it is as a call begins, and after each of its steps
pub record KnowsRecorded (v : View) : Type 0 where
  pub objects : (p : Place) (b : ℕ) → sees_at v p b ≡ true
      → is_recorded v.log.records p ≡ true → IsInObject v p
  pub guarded : (p : Place) → is_recorded v.log.records p ≡ true → is_guarded (offset_in v p) ≡ true

abbrev pub RecordsBegin : Type 0
RecordsBegin = (v : View) → v.log.records ≡ [] → KnowsRecorded v

abbrev pub RecordsStayKnown : Step → Type 0
RecordsStayKnown s = (o : Opening) (old mem : Memory) (views new : Views) (g : Past) (k : ℕ)
    (kept : Bool) → IsStep o old mem views new g k s → GivesUpNothing (views k) kept s
    → KnowsRecorded (views k) → KnowsRecorded (after (views k) s)

-- what teaches nothing leaves that too
abbrev pub QuietStepsKeepRecords : Type 0
QuietStepsKeepRecords = (v : View) (changes : List Undrained) (calls : List Step) (occupancy : List Seen)
    (zones : List ℕ) (seen : List Step) → KnowsRecorded v → KnowsRecorded (record v {
      changes = changes;
      calls = calls;
      occupancy = occupancy;
      zones = zones;
      seen = seen;
    })

-- AN ABORT voids its records once their words are as they were: by the drain of the generation
-- that it stored, all that it knew is so still
pub record IsVoiding (o : Opening) (old mem : Memory) (views new : Views) (g : Past) (k : ℕ)
    : Type 0 where
  pub world : World o old views g
  pub runs : k < o.lanes
  pub voids : (views k).log.phase ≡ Voiding
  pub lawful : IsLawful (views k) Drain
  pub moves : Moves k Drain old mem
  pub turn : Turn views new k (after (views k) Drain)
  pub known : KnowsRecorded (views k)

abbrev pub VoidingGrows : Type 0
VoidingGrows = (o : Opening) (old mem : Memory) (views new : Views) (g : Past) (k : ℕ) (kept : Bool)
    → IsVoiding o old mem views new g k → GivesUpNothing (views k) kept Drain
    → Grows (views k) kept (after (views k) Drain) kept

-- so the simulation goes on, where the step leaves the bits as the call has made them
abbrev pub StepsKeepSims : Step → Type 0
StepsKeepSims s = (o : Opening) (old mem : Memory) (views new : Views) (g : Past) (k : ℕ)
    (entries entries' : List Entry) → IsStep o old mem views new g k s
    → ((kept : Bool) → GivesUpNothing (views k) kept s)
    → SameBits (views k) entries (after (views k) s) entries'
    → Sim (views k) entries → Sim (after (views k) s) entries'

-- ---- ALONG A RUN, whatever steps other lanes make between those of the call

-- the step of the lane goes on in its open call and gives up nothing
pub record IsOfCall (v : View) (kept : Bool) (s : Step) : Type 0 where
  pub is_open : v.log.phase ≡ Open
  pub goes : goes_on v s ≡ true
  pub keeps : GivesUpNothing v kept s

unfoldable pub IsCallRun : Opening → ℕ → Bool → Moment → List LaneStep → Moment → Type 0
IsCallRun o k kept old [] new = new ≡ old
IsCallRun o k kept old (t ∷ rest) new = (next : Moment) × Leads o old t next
    × (t.lane ≡ k → IsOfCall (old.views k) kept t.step) × IsCallRun o k kept next rest new

abbrev pub RunsGrow : Type 0
RunsGrow = (o : Opening) (k : ℕ) (kept : Bool) (turns : List LaneStep) (old new : Moment)
    → IsWorld o old → k < o.lanes → IsCallRun o k kept old turns new
    → Grows (old.views k) kept (new.views k) kept
