-- WHAT A SCRIPT LEAVES that lanes ran on the pool of an image, each in a thread of its own, where power
-- fails at the end: docs/MODEL.md, "Crash".
use Rattle.std.specs.Prelude.{◌≡◌, ◌≢◌, ◌⊎◌, ℕ, ◌%◌, ◌^◌, ◌<◌, ◌≤◌, true, false, Contains, List, [], length, map, reverse, slice_index, slice_index_or, None, Option}
use Rattle.std.specs.List.{AllZip}
use Rattle.std.specs.Option.{ForSome, option_map_or}
use Rattle.pm_calls.specs.Calls.{calls_of_lane, null_id}
use Rattle.pm_calls.specs.declared.names.Names.{Names}
use Rattle.pm_crash.specs.Images.{block_for}
use Rattle.pm_image.specs.Blocks.{blocks}
use Rattle.pm_image.specs.Logs.{generation_word, recovered_at}
use Rattle.pm_image.specs.Means.{IsMeaning}
use Rattle.pm_image.specs.Steps.{valid_record}
use Rattle.pm_call.specs.Histories.{Ended, LaneHistory}
use Rattle.pm_call.specs.Standing.{StoppedWith}
use Rattle.pm_lanes.specs.Closed.{AllAreBack, BackWith, CameToStop, HasBusyCause, IsBack, MaySurvive, calls_in_run}
use Rattle.pm_lanes.specs.Opens.{IsOpened}
use Rattle.pm_lanes.specs.Turns.{TookTurns}
use Rattle.pm_memory.specs.Keep.{IsKeptImage}
use Rattle.pm_model.specs.History.{IsHistory, ReplaysEntries, is_answered, without_lost}
use Rattle.pm_model.specs.Shown.{IsShown}
use Rattle.pm_objects.specs.Pool.{IsPool}
use Rattle.pm_objects.specs.declared.calls.Operation.{Operation}
use Rattle.pm_objects.specs.declared.history.Entry.{Entry}
use Rattle.pm_objects.specs.declared.history.Fate.TheVariants as fate
use Rattle.pm_objects.specs.declared.history.TxErr.TheVariants as error
use Rattle.pm_objects.specs.declared.pool.PoolView.{PoolView}
use Rattle.pm_objects.specs.declared.refusal.Refusal.TheVariants.{Busy}
use Rattle.pm_script.specs.declared.script.Script.{Script}
use Rattle.pm_shared.specs.declared.rule.Beginning.{Beginning}
use Rattle.pm_text.specs.declared.report.LaneEnd.{LaneEnd}
use Rattle.pm_text.specs.declared.report.LaneEnd.TheVariants as end
use Rattle.pm_view.specs.Steps.Step.{StopSeen}
use Rattle.pm_view.specs.View.{View}
use Rattle.pm_view.specs.declared.change.Change.{Change}
use Rattle.pm_world.specs.Causes.{drawn_by}
use Rattle.pm_world.specs.Crash.{IsBeingWritten, IsWhole}
use Rattle.pm_world.specs.Runs.{LaneStep, Moment}
use Rattle.pm_world.specs.World.{is_header}
use Rattle.pm_exec.specs.Answers.{AddsRange, AreFirst, run_of}
use Rattle.pm_exec.specs.Missing.{MissesHaveCauses}
use Rattle.pm_exec.specs.Reports.{IsLaneHistory, entries_of_lane}
use Rattle.pm_script.specs.declared.script.ScriptLine.{ScriptLine}
use Rattle.pm_exec.specs.declared.outcome.Outcome.{Outcome}

-- WHAT THE NAMES OF A SCRIPT STAND FOR on a pool: its id, and the object that `root` is, null where
-- it has none. No word that lanes run changes the root
abbrev pub names_of : PoolView → Names
names_of pool = record {
  pool = pool.id;
  root = option_map_or (λ (off : ℕ). record { pool = pool.id; off = off }) pool.root null_id;
}

-- THE PLAIN MODEL replays the entries that are not lost, one whole call after another, each with its
-- values, from the pool that was opened
pub record Replayed (pool : PoolView) (entries : List Entry) : Type 0 where
  pub last : PoolView
  pub replays : ReplaysEntries pool (without_lost entries) last

-- THE IMAGE STANDS FOR IT: it means the pool to which they lead, and the blocks that it allocates are
-- those of its objects in rising place, of which no two overlap
pub record StandsFor (pool : PoolView) (entries : List Entry) (image : List ℕ) : Type 0 where
  pub last : PoolView
  pub replays : ReplaysEntries pool (without_lost entries) last
  pub means : IsMeaning image last
  pub blocks_are : blocks (recovered_at image pool.lanes) pool.lanes pool.zones ≡ map block_for last.objects
  pub apart : IsPool last

-- the second is the first with the fate that another image gives it: that of a call that was
-- answered stays, and that of another is kept or lost in both
pub record IsButFate (e f : Entry) : Type 0 where
  pub same : f ≡ record e { fate = f.fate }
  pub answered : is_answered e.fate ≡ true → f ≡ e
  pub unanswered : is_answered e.fate ≡ false → is_answered f.fate ≡ false

-- THE CALL AFTER THE ENTRIES OF A LANE adds a range, by the script
abbrev pub AddsNext : Names → List ScriptLine → List Entry → ℕ → Type 0
AddsNext names script entries lane = AddsRange names
    (slice_index_or (calls_of_lane lane script) (length (entries_of_lane lane entries)) [])

-- EACH RECORD THAT A LANE WAS WRITING, which stopped in a call that adds a range and has no entry, is
-- whole in the image, or reads as none
abbrev pub AddedTearNone : Moment → Names → List ScriptLine → List Entry → List LaneEnd → List ℕ
    → Type 0
AddedTearNone last names script entries ends image = (lane calls slot : ℕ)
    → slice_index_or ends lane end.Ended ≡ end.Stopped calls
    → AddsNext names script entries lane → slot < 64
    → IsBeingWritten (last.views lane) slot → valid_record image lane slot ≢ None
    → IsWhole (last.views lane) image slot

-- WHATEVER SURVIVES of what was undrained: the entries, with the fates that the image gives to the
-- calls that were not answered, are a history, and the image stands for it unless a record is torn
pub record SurvivesAs (last : Moment) (script : List ScriptLine) (ends : List LaneEnd)
    (pool : PoolView) (entries : List Entry) (image : List ℕ) : Type 0 where
  pub fates : List Entry
  pub same : AllZip IsButFate entries fates
  pub is_history : IsHistory fates
  pub replayed : Replayed pool fates
  pub stands : AddedTearNone last (names_of pool) script entries ends image
      → StandsFor pool fates image

-- the lane of this view found the stop word set, which it looks at as it waits for a lock; and
-- another lane came to its stop number
pub record AnotherStopped (b : Beginning) (back : List View) (lane : ℕ) (v : View) : Type 0 where
  pub saw : Contains v.seen (StopSeen true)
  pub other : ℕ
  pub runs : other < b.lanes
  pub apart : other ≢ lane
  pub last : IsBack back other
  pub reached : CameToStop b last.view

-- A LANE STOPPED after so many counted calls, modulo 2^64: it came to its stop number; or it waited
-- for a lock, and another lane had come to its own
pub record HasStopped (b : Beginning) (back : List View) (lane calls : ℕ) : Type 0 where
  pub last : IsBack back lane
  pub count : calls ≡ length last.view.calls % 2 ^ 64
  pub due : CameToStop b last.view ⊎ AnotherStopped b back lane last.view

-- AN ENTRY WAS ABORTED AS Busy, call `call` of the history, with one of its operations: this wants
-- the lock of an object, and another lane's call had that lock at the same time
pub record IsBusyCall (b : Beginning) (last : Moment) (call : ℕ) (e : Entry) : Type 0 where
  pub of_lane : drawn_by last.past call ≡ e.call.lane
  pub operation : Operation
  pub among : Contains e.call.operations operation
  pub cause : HasBusyCause b last call operation

-- an entry shows this call of its lane, with its number
pub record ShowsCall (lane : ℕ) (e : Entry) (d : Ended) : Type 0 where
  pub number : e.number ≡ d.number
  pub shown : IsShown e.call e.reply (run_of lane d.call)

-- A LANE'S MEMORY CALLS ARE THE PLANS OF ITS LINES, up to its stop: its counted calls in the run are
-- those that its view lists, no more than its stop number says; and the view came by the plans of the
-- operations of its entries, one call after another, and of the first lines of its next call
pub record CallsArePlanned (names : Names) (script : List ScriptLine) (entries : List Entry)
    (stop : Option ℕ) (turns : List LaneStep) (lane : ℕ) (v : View) : Type 0 where
  pub calls : calls_in_run lane turns ≡ reverse v.calls
  pub within : ForSome stop (λ most. length v.calls ≤ most)
  pub history : LaneHistory
  pub shown : AllZip (ShowsCall lane) (entries_of_lane lane entries) (reverse history.done)
  pub first : AreFirst names
      (slice_index_or (calls_of_lane lane script) (length (entries_of_lane lane entries)) [])
      history.call history.within
  pub plans : StoppedWith v history

-- NO NUMBER IS LEFT for a call of the lane: its generation in the image is the greatest, or as many
-- calls have numbers as there are
abbrev pub NoNumberIsLeft : List ℕ → ℕ → List Entry → Type 0
NoNumberIsLeft image lane entries =
    (2 ^ 62 ≤ generation_word image lane) ⊎ (2 ^ 62 ≤ length entries)

-- A SCRIPT RAN ON LANES: the pool was opened, lane k ran the script's lines of lane k up to its stop
-- number, if it has one, all lanes came back, and what is left is what the keep number leaves of the
-- words and of what each lane had undrained
pub record RanOnLanes (image layout : List ℕ) (script : Script) (stops : List (Option ℕ)) (keep : ℕ) (out : Outcome) : Type 0 where
  pub begin_ : Beginning
  pub opened : IsOpened image layout begin_.words.items begin_.shape begin_.pool
  pub lanes_are : begin_.lanes ≡ script.lanes
  pub stops_are : begin_.stops ≡ stops
  pub back : List View
  pub words : List ℕ
  -- in lawful steps of the lanes, in whatever order they interleaved, from the words that were opened
  pub took : TookTurns begin_ back words
  pub all : AllAreBack script.lanes back
  pub undrained : List (List Change)
  pub back_with : BackWith back undrained
  pub kept : IsKeptImage keep words undrained out.image.items
  pub size : length out.image.items ≡ length image
  -- the report
  pub is_history : IsHistory out.entries.items
  pub ends : length out.lanes.items ≡ script.lanes
  pub each : (lane : ℕ) → lane < script.lanes
      → IsLaneHistory (names_of opened.pool) script.lines out.entries.items lane
      (slice_index_or out.lanes.items lane end.Ended)
  -- a lane that stopped had made so many counted calls, and its stop was due
  pub stopped : (lane calls : ℕ) → lane < script.lanes → slice_index_or out.lanes.items lane end.Ended ≡ end.Stopped calls
      → HasStopped begin_ back lane calls
  -- the memory calls of each lane are the plans of its lines, up to its stop
  pub planned : (lane : ℕ) → lane < script.lanes
      → (last : IsBack back lane)
      × CallsArePlanned (names_of opened.pool) script.lines out.entries.items
      (slice_index_or stops lane None) took.turns lane last.view
  -- each call that was aborted as Busy has its cause
  pub busy : (call : ℕ) (d : Entry) → call < length out.entries.items
      → (slice_index_or out.entries.items call d).fate ≡ fate.Aborted (error.Refused Busy)
      → IsBusyCall begin_ took.last call (slice_index_or out.entries.items call d)
  -- and so has each that was refused as NoObject
  pub missing : MissesHaveCauses opened.pool out.entries.items
  -- and a lane that was spent has no number left
  pub spent : (lane line : ℕ) → lane < script.lanes
      → slice_index_or out.lanes.items lane end.Ended ≡ end.Spent line
      → NoNumberIsLeft out.image.items lane out.entries.items
  -- what it means, with no premise; and what the image means, unless a record is torn that a stopped
  -- lane was writing
  pub replayed : Replayed opened.pool out.entries.items
  pub stands : AddedTearNone took.last (names_of opened.pool) script.lines out.entries.items
      out.lanes.items out.image.items → StandsFor opened.pool out.entries.items out.image.items
  -- the header's page is as it was, but for the root word
  pub header : (w : ℕ) → is_header begin_.shape w ≡ true
      → slice_index out.image.items w ≡ slice_index image w
  -- the image is one that may survive the power failure, and the same holds of each of those
  pub survives : MaySurvive begin_ took.last out.image.items
  pub each_choice : (other : List ℕ) → MaySurvive begin_ took.last other
      → SurvivesAs took.last script.lines out.lanes.items opened.pool out.entries.items other
