-- THE WORLD: the words that lanes share, with each lane's view, and what must be so of them at every moment.
use Rattle.std.specs.Prelude.{◌≡◌, ◌⊎◌, ℕ, zero, suc, ◌+◌, ◌%◌, ◌^◌, ◌<◌, ◌≤◌, nat_lt, Bool, true, false, cond, ◌==◌, ◌&&◌, ◌||◌, not, All, List, [], ◌∷◌, length, slice_index, Option, None, Some, is_none}
use Rattle.pm_layout.specs.Areas.{page_words, page_bytes, greatest_generation}
use Rattle.std.specs.Option.{ForSome}
use Rattle.std.specs.List.{list_any}
use Rattle.pm_layout.specs.declared.shape.Shape.{Shape}
use Rattle.pm_layout.specs.Chunks.{words_of, word_of_descriptor, word_of_root}
use Rattle.pm_view.specs.declared.occ.Occ.{Occ}
use Rattle.pm_view.specs.declared.occ.Occ.TheVariants.{Run, Zone}
use Rattle.pm_view.specs.Changes.{Undrained}
use Rattle.pm_view.specs.Places.{Place, InRun, InHuge, Descr, RootWord, Block, Geometry, block_of, is_data}
use Rattle.pm_view.specs.Claims.{making, pictured, is_run}
use Rattle.pm_view.specs.Counts.{max_changes, IsAtStop}
use Rattle.pm_view.specs.Log.{Phase, Idle, Open, Drawn, Sealing, Retiring, Voiding}
use Rattle.pm_view.specs.Steps.{Step}
use Rattle.pm_view.specs.Steps.Step.{NumberSeen}
use Rattle.pm_view.specs.View.{View, Numbered, entry_drawn}
use Rattle.pm_view.specs.Views.{occupancy_of}
use Rattle.pm_world.specs.States.{State, given}
use Rattle.pm_world.specs.Sights.{Sight, is_recorded, call_in, sight_of}
use Rattle.pm_world.specs.Lanes.{Ghost, owns, settled, is_decided, Bits}
use Rattle.pm_world.specs.Logs.{LogFits}
use Rattle.pm_world.specs.Memory.{Memory, PoolWord, ZoneLock, CommitCounter, StopWord, occ_at, bits_of, cells_of}

-- what a world began from: the pool's shape, how many lanes run, and the words after recovery
pub record Opening : Type 0 where
  pub shape : Shape
  pub lanes : ℕ
  pub words : List ℕ

-- THE ORIGIN: the opening's bits, with the bitmaps of chunks that were no runs taken as 0, since no meaning looks at them
abbrev pub was_run : Opening → ℕ → Bool
was_run o c = is_run (slice_index o.words (word_of_descriptor o.shape c))

abbrev pub origin : Opening → State
origin o (InRun c w) b = (not (w == 0) || was_run o c) && bits_of o.shape (slice_index o.words) (InRun c w) b
origin o (InHuge c w) b = bits_of o.shape (slice_index o.words) (InHuge c w) b
origin o (Descr c) b = bits_of o.shape (slice_index o.words) (Descr c) b
origin o RootWord b = bits_of o.shape (slice_index o.words) RootWord b

abbrev pub Views : Type 0
Views = ℕ → View

-- THE GHOSTS: each call of the history is the view of its lane as it took its number, and so has what it held, knew and found; which calls are decided;
-- which chunks are runs, which chunks are one block, of what class runs are, and whose a block is that is not allocated
pub record Past : Type 0 where
  pub drew : ℕ → View
  pub length : ℕ
  pub decided : ℕ → Bool
  pub runs : ℕ → Bool
  pub geo : Geometry
  pub holder : Block → ℕ

abbrev pub ghost_of : Past → Ghost
ghost_of g = record { log = λ n. call_in (g.drew n); who = λ n. (g.drew n).fixed.lane; length = g.length; decided = g.decided; runs = g.runs; geo = g.geo; holder = g.holder }

-- the words after the decided calls
abbrev pub settled_words : Opening → Past → State
settled_words o g = settled (origin o) (ghost_of g)

-- the entries of a lane, the latest first
abbrev pub numbered_by : ℕ → (ℕ → View) → ℕ → List Numbered
numbered_by lane drew zero = []
numbered_by lane drew (suc n) = cond ((drew n).fixed.lane == lane) (entry_drawn n (drew n) ∷ numbered_by lane drew n) (numbered_by lane drew n)

-- the number that an open call took
abbrev pub NumberFits : Phase → Option ℕ → Type 0
NumberFits Open number = number ≡ None
NumberFits Voiding number = number ≡ None
NumberFits (Drawn n) number = number ≡ Some (suc n)
NumberFits (Sealing n) number = number ≡ Some (suc n)
NumberFits (Retiring n) number = number ≡ Some (suc n)
NumberFits phase number = Unit {0}

-- an occupancy word of a run is named by the place at which a page begins
abbrev pub is_at_page : Occ → Bool
is_at_page (Run place) = place % page_bytes == 0
is_at_page (Zone zone) = true

-- where one lane runs, each word and each occupancy word that it saw or made is so still
pub record AloneFits (mem : Memory) (v : View) : Type 0 where
  pub words : (w x : ℕ) → pictured v.fixed.shape v.claims w ≡ Some x → mem (PoolWord w) ≡ x
  pub occupancy : (at : Occ) (x : ℕ) → occupancy_of v.occupancy at ≡ Some x → (mem (occ_at at) ≡ x) × (is_at_page at ≡ true)

-- the log of a lane's view stands in its area
abbrev pub AreaFits : Opening → Memory → Past → ℕ → View → Type 0
AreaFits o mem g k v = LogFits o.shape k ((cells_of o.shape mem).generation k) ((cells_of o.shape mem).seal k) ((cells_of o.shape mem).entry k) ((cells_of o.shape mem).slot k)
    (settled_words o g) (owns g.geo (settled_words o g) (sight_of v).hold) (sight_of v).picture v.log v.changes

-- a record is of data of a block that the lane found under its write lock, and it knows the word
abbrev pub RecordedFits : Geometry → Sight → Place → Type 0
RecordedFits G x p = (is_data p ≡ true) × ((b : ℕ) → (x.hold.here (block_of G p b) ≡ true) × (given (x.picture p b) ≡ true))

-- of a lane's view, beside what is said of its sight
pub record LaneFits (o : Opening) (mem : Memory) (g : Past) (k : ℕ) (v : View) : Type 0 where
  pub lane : v.fixed.lane ≡ k
  pub shape : v.fixed.shape ≡ o.shape
  pub lanes : v.fixed.lanes ≡ o.lanes
  pub log : LogFits o.shape k ((cells_of o.shape mem).generation k) ((cells_of o.shape mem).seal k) ((cells_of o.shape mem).entry k) ((cells_of o.shape mem).slot k)
      (settled_words o g) (owns g.geo (settled_words o g) (sight_of v).hold) (sight_of v).picture v.log v.changes
  -- once the call is decided the lane makes no run: what it made was drained before
  pub made : is_decided v.log.phase ≡ true → (c : ℕ) → making v.fixed.shape v.claims c ≡ false
  -- a record is of what the lane found, and holds still
  pub recorded : is_decided v.log.phase ≡ false → (p : Place) → is_recorded v.log.records p ≡ true → RecordedFits g.geo (sight_of v) p
  pub number : NumberFits v.log.phase v.number
  pub zones : (z : ℕ) → (mem (ZoneLock z) == suc k) ≡ list_any (λ other. other == z) v.zones
  pub masks : All (λ (c : Undrained). (c.mask < 2 ^ 64) × (c.word < words_of o.shape)) v.changes
  pub room : length v.changes ≤ max_changes
  pub within : ForSome v.fixed.stop (λ stop. length v.calls ≤ stop)
  pub alone : o.lanes ≡ 1 → AloneFits mem v
  pub entries : v.entries ≡ numbered_by k g.drew g.length

-- the step saw that fewer numbers were drawn than the limit; the lane's call may take one: it has not, and saw that it may
abbrev pub is_low : Shape → Step → Bool
is_low sh (NumberSeen n) = nat_lt n (greatest_generation sh)
is_low sh s = false

abbrev pub may_draw : View → Bool
may_draw v = is_none v.number && list_any (is_low v.fixed.shape) v.seen

abbrev pub may_draw_count : Views → ℕ → ℕ
may_draw_count views zero = 0
may_draw_count views (suc k) = may_draw_count views k + cond (may_draw (views k)) 1 0

-- a word of the header page that is not the root's
abbrev pub is_header : Shape → ℕ → Bool
is_header sh w = nat_lt w page_words && not (w == word_of_root sh)

pub record World (o : Opening) (mem : Memory) (views : Views) (g : Past) : Type 0 where
  pub some_lanes : 1 ≤ o.lanes
  pub most_lanes : o.lanes ≤ o.shape.lanes
  -- as many as a lock word has bits for
  pub few_lanes : o.lanes ≤ 32
  pub size : length o.words ≡ words_of o.shape
  -- the bits at places, and locks and occupancy bits
  pub bits : Bits o.shape o.lanes (origin o) (cells_of o.shape mem) (λ k. sight_of (views k)) (ghost_of g)
  pub each_lane : (k : ℕ) → k < o.lanes → LaneFits o mem g k (views k)
  pub idle_beyond : (k : ℕ) → o.lanes ≤ k → ((views k).changes ≡ []) × ((views k).log.phase ≡ Idle) × ((views k).claims ≡ [])
  -- the logs of the pool's other lanes are retired
  pub logs_beyond : (k : ℕ) → o.lanes ≤ k → k < o.shape.lanes → AreaFits o mem g k (views k)
  -- a call of the history is a lane's
  pub of_lanes : (n : ℕ) → n < g.length → (g.drew n).fixed.lane < o.lanes
  pub small : (w : ℕ) → mem (PoolWord w) < 2 ^ 64
  pub header : (w : ℕ) → is_header o.shape w ≡ true → mem (PoolWord w) ≡ slice_index o.words w
  -- a zone's lock is free, or a lane's that runs
  pub zone_locks : (z : ℕ) → mem (ZoneLock z) ≤ o.lanes
  -- numbers do not run out
  pub counter_room : mem CommitCounter + may_draw_count views o.lanes < greatest_generation o.shape + 32
  pub stop_word : (mem StopWord ≡ 0) ⊎ ((k : ℕ) × (k < o.lanes) × IsAtStop (views k))
