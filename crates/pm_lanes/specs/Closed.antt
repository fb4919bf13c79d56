-- WHAT A POOL IS LEFT AS by lanes that ran, came back, and whose table closed, where power fails
-- then: docs/MODEL.md, "Crash".
use Rattle.std.specs.Prelude.{◌≡◌, ◌≢◌, ◌⊎◌, ℕ, suc, ◌+◌, ◌*◌, ◌<◌, ◌≤◌, ◌==◌, ◌&&◌, All, Bool}
use Rattle.std.specs.Prelude.{true, Contains, List, [], length, map, reverse, slice_index}
use Rattle.std.specs.Prelude.{slice_index_or, None, Option, Some}
use Rattle.std.specs.List.{filter}
use mathlib.Core.Option.{some}
use lib.ListN.{get_elem?}
use Rattle.pm_crash.specs.Answers.{LeadsWithout}
use Rattle.pm_crash.specs.Facts.{HaveFacts, last_of}
use Rattle.pm_crash.specs.Fates.{EndsOpen, is_judged_kept}
use Rattle.pm_crash.specs.Images.{MeansReplay}
use Rattle.pm_crash.specs.Missed.{ids_named, lists_before}
use Rattle.pm_crash.specs.Replayed.{HasFacts, Replay, kept_calls, kept_pending}
use Rattle.pm_image.specs.Logs.{generation_word}
use Rattle.pm_memory.specs.Changes.{AreUndrained}
use Rattle.pm_memory.specs.Keep.{IsKeptImage}
use Rattle.pm_model.specs.Inside.{wants_of}
use Rattle.pm_model.specs.Transaction.{is_gone}
use Rattle.pm_objects.specs.declared.calls.Operation.{Operation}
use Rattle.pm_objects.specs.declared.calls.Want.{Want}
use Rattle.pm_objects.specs.declared.history.Value.TheVariants.{Refused}
use Rattle.pm_objects.specs.declared.pool.PoolView.{PoolView}
use Rattle.pm_objects.specs.declared.ids.Oid.{Oid}
use Rattle.pm_objects.specs.declared.refusal.Refusal.TheVariants.{Busy, NoObject}
use Rattle.pm_shared.specs.Closings.{Closes}
use Rattle.pm_shared.specs.declared.rule.Beginning.{Beginning}
use Rattle.pm_shared.specs.Openings.{opening_of}
use Rattle.pm_view.specs.Changes.{IsFormed}
use Rattle.pm_view.specs.Counts.{IsAtStop, is_counted}
use Rattle.pm_view.specs.Steps.{Step}
use Rattle.pm_view.specs.Steps.Step.{NumberSeen, StopSeen}
use Rattle.pm_view.specs.declared.change.Change.{Change}
use Rattle.pm_view.specs.Log.{is_early}
use Rattle.pm_view.specs.View.{Numbered, View, entry_drawn}
use Rattle.pm_world.specs.Causes.{BusyCause, drawn_by}
use Rattle.pm_world.specs.Crash.{NoneTorn, Survives, is_kept}
use Rattle.pm_world.specs.Runs.{LaneStep, Moment}
use Rattle.pm_world.specs.World.{Past, is_header, numbered_by}
use Rattle.pm_lanes.specs.Opens.{IsOpened}

-- ---- LANES CAME BACK

-- lane k did: its view is among these
pub record IsBack (back : List View) (k : ℕ) : Type 0 where
  pub place : ℕ
  pub view : View
  pub there : get_elem? back place ≡ some view
  pub lane_is : view.fixed.lane ≡ k

abbrev pub AllAreBack : ℕ → List View → Type 0
AllAreBack lanes back = (k : ℕ) → k < lanes → IsBack back k

-- each call of each of these lanes has its fact
abbrev pub AllHaveFacts : List View → Type 0
AllHaveFacts back = (n : ℕ) (v : View) → get_elem? back n ≡ some v → HaveFacts v

-- each lane came back with these changes undrained, the oldest first; lanes go by their number
pub record BackWith (back : List View) (undrained : List (List Change)) : Type 0 where
  pub all : AllAreBack (length undrained) back
  pub each : (n : ℕ) (v : View) → get_elem? back n ≡ some v
      → AreUndrained (slice_index_or undrained v.fixed.lane []) v.changes
  pub formed : All (All IsFormed) undrained

-- ---- STOPS

-- the lane of this view made as many counted calls as the stop number that the beginning gave it
abbrev pub CameToStop : Beginning → View → Type 0
CameToStop b v = slice_index_or b.stops v.fixed.lane None ≡ Some (length v.calls)

-- A LANE AT ITS STOP came to the stop number that it was given
abbrev pub StopsAreReached : Type 0
StopsAreReached = (b : Beginning) (back : List View) (words : List ℕ) (n : ℕ) (v : View)
    → Closes b back words → get_elem? back n ≡ some v → IsAtStop v → CameToStop b v

-- A LANE THAT FOUND THE STOP WORD SET shows one that came to its stop
abbrev pub SeenStopsAreReached : Type 0
SeenStopsAreReached = (b : Beginning) (back : List View) (words : List ℕ) (n : ℕ) (v : View)
    → Closes b back words → AllAreBack b.lanes back → get_elem? back n ≡ some v
    → Contains v.seen (StopSeen true)
    → (k : ℕ) × (k < b.lanes) × (other : IsBack back k) × CameToStop b other.view

-- ---- NUMBERS

-- THE NUMBERS THAT A LANE SAW DRAWN are those of calls of the history
abbrev pub SeenNumbersAreDrawn : Type 0
SeenNumbersAreDrawn = (b : Beginning) (back : List View) (words : List ℕ) (n : ℕ) (v : View)
    (count : ℕ) → (closed : Closes b back words) → get_elem? back n ≡ some v
    → Contains v.seen (NumberSeen count) → count ≤ closed.last.past.length

-- ---- POWER FAILS as the table is closed

-- what may survive of its words
abbrev pub MaySurvive : Beginning → Moment → List ℕ → Type 0
MaySurvive b last image = Survives (opening_of b) last.mem last.views image

-- a slot that was being written is whole, or no record
abbrev pub NoRecordTorn : Beginning → Moment → List ℕ → Type 0
NoRecordTorn b last image = NoneTorn (opening_of b) last.views image

-- the image does not lose this call of the history
abbrev pub keeps_call : Beginning → Moment → List ℕ → ℕ → Bool
keeps_call b last image n = is_kept (opening_of b) last.views last.past image n

-- THE IMAGE MEANS ITS HISTORY: its pool is the one to which the calls that it does not lose lead,
-- one whole call after another, in the order of their commit numbers, from the pool that was
-- opened
abbrev pub MeansHistory : Beginning → Moment → PoolView → List ℕ → Type 0
MeansHistory b last pool image = MeansReplay image b.shape.lanes b.shape.zones pool
    (kept_calls (keeps_call b last image) last.past.drew last.past.length)
    (kept_pending (keeps_call b last image) last.past.drew last.past.length)

-- the calls that the image does not lose lead from this pool to some pool
abbrev pub ReplaysHistory : Beginning → Moment → PoolView → List ℕ → Type 0
ReplaysHistory b last pool image = (r : PoolView)
    × Replay pool (kept_calls (keeps_call b last image) last.past.drew last.past.length) r
    (kept_pending (keeps_call b last image) last.past.drew last.past.length)

-- ---- THE LAWS

-- WHAT A KEEP NUMBER LEAVES of the words may survive, where all lanes came back with these changes
abbrev pub KeptImagesSurvive : Type 0
KeptImagesSurvive = (b : Beginning) (back : List View) (words image : List ℕ)
    (undrained : List (List Change)) (keep : ℕ) → (closed : Closes b back words)
    → BackWith back undrained → length undrained ≤ b.lanes
    → IsKeptImage keep words undrained image → MaySurvive b closed.last image

-- THE HEADER'S PAGE of every image that may survive is that of the image that was opened, but for
-- the root word
abbrev pub HeadersAreKept : Type 0
HeadersAreKept = (before layout words image : List ℕ) (b : Beginning) (back : List View)
    → IsOpened before layout b.words.items b.shape b.pool → (closed : Closes b back words)
    → MaySurvive b closed.last image
    → (w : ℕ) → is_header b.shape w ≡ true → slice_index image w ≡ slice_index before w

-- THE GENERATION of a lane whose call has no number is so in every image that may survive
abbrev pub GenerationsAreKept : Type 0
GenerationsAreKept = (b : Beginning) (back : List View) (words image : List ℕ) (n : ℕ) (v : View)
    → (closed : Closes b back words) → MaySurvive b closed.last image → get_elem? back n ≡ some v
    → is_early v.log.phase ≡ true → generation_word image v.fixed.lane ≡ v.log.generation

-- CLOSED POOLS MEAN THEIR HISTORIES: where an image was opened, all lanes came back, and each of
-- their calls has its fact, every image that may survive means its history, unless a record is
-- torn
abbrev pub ClosedPoolsMeanTheirHistories : Type 0
ClosedPoolsMeanTheirHistories = (before layout words image : List ℕ) (b : Beginning)
    (back : List View) → (opened : IsOpened before layout b.words.items b.shape b.pool)
    → (closed : Closes b back words) → AllAreBack b.lanes back → AllHaveFacts back
    → MaySurvive b closed.last image → NoRecordTorn b closed.last image
    → MeansHistory b closed.last opened.pool image

-- WHATEVER IS TORN, the calls that an image does not lose lead from the pool that was opened to
-- some pool; and each call of the history has its fact
abbrev pub ClosedPoolsReplay : Type 0
ClosedPoolsReplay = (before layout words image : List ℕ) (b : Beginning) (back : List View)
    → (opened : IsOpened before layout b.words.items b.shape b.pool)
    → (closed : Closes b back words) → AllAreBack b.lanes back → AllHaveFacts back
    → ReplaysHistory b closed.last opened.pool image

abbrev pub ClosedPoolsHaveFacts : Type 0
ClosedPoolsHaveFacts = (b : Beginning) (back : List View) (words : List ℕ)
    → (closed : Closes b back words) → AllAreBack b.lanes back → AllHaveFacts back
    → HasFacts closed.last.past

-- A LANE THAT CAME BACK BETWEEN TWO CALLS, or in one without a number yet, has no call that an
-- image loses
abbrev pub AnsweredCallsAreKept : Type 0
AnsweredCallsAreKept = (b : Beginning) (back : List View) (words image : List ℕ)
    (n : ℕ) (v : View) → (closed : Closes b back words) → get_elem? back n ≡ some v
    → is_early v.log.phase ≡ true → (call : ℕ) → call < closed.last.past.length
    → (closed.last.past.drew call).fixed.lane ≡ v.fixed.lane
    → keeps_call b closed.last image call ≡ true

-- ---- COUNTED CALLS

-- the counted calls of lane k in a run, in their order
abbrev pub calls_in_run : ℕ → List LaneStep → List Step
calls_in_run k turns = map (λ (t : LaneStep). t.step)
    (filter (λ (t : LaneStep). (t.lane == k) && is_counted t.step) turns)

-- THEY ARE THOSE THAT THE LANE'S VIEW LISTS, where it came back
abbrev pub CallsAreListed : Type 0
CallsAreListed = (b : Beginning) (back : List View) (words : List ℕ) (n : ℕ) (v : View)
    → (closed : Closes b back words) → get_elem? back n ≡ some v
    → calls_in_run v.fixed.lane closed.run.turns ≡ reverse v.calls

-- ---- CALLS THAT ENDED AS Busy

-- THE CAUSE OF Busy in call `call` of the history, whose last operation was this: it wants the lock
-- of an object, that of the line before it; and another lane's call had this lock at the same time
pub record HasBusyCause (b : Beginning) (last : Moment) (call : ℕ) (op : Operation) : Type 0 where
  pub want : Want
  pub among : Contains (wants_of op) want
  pub line : ℕ
  pub before : want.id.off ≡ 64 * line + 64
  pub cause : BusyCause (opening_of b) last.views last.past (drawn_by last.past call) call line

-- EACH CALL WHOSE LAST OPERATION WAS TOLD AS Busy has its cause
abbrev pub BusyCallsHaveCauses : Type 0
BusyCallsHaveCauses = (b : Beginning) (back : List View) (words : List ℕ) (call : ℕ)
    (op : Operation) → (closed : Closes b back words) → AllAreBack b.lanes back
    → AllHaveFacts back → call < closed.last.past.length
    → last_of (closed.last.past.drew call).call
    ≡ Some (record { operation = op; reply = Some (Refused Busy) })
    → HasBusyCause b closed.last call op

-- ---- CALLS THAT ENDED AS NoObject

-- NO OBJECT STOOD AT AN OFFSET for call `call` of the history: up to some number, not before that of
-- the lane's last entry and below the call's own, the calls that the image does not lose lead from
-- this pool to one without an object there
pub record LackedObject (b : Beginning) (last : Moment) (pool : PoolView) (image : List ℕ)
    (call off : ℕ) : Type 0 where
  pub number : ℕ
  pub least : (p : ℕ) → p < call → drawn_by last.past p ≡ drawn_by last.past call → 1 + p ≤ number
  pub below : number < 1 + call
  pub leads : LeadsWithout last.past (keeps_call b last image) pool number off

-- THE CAUSE OF NoObject in call `call` of the history, whose last operation was this: it names an
-- object of another pool, or one that was not there, or one that the call itself freed
pub record HasMissCause (b : Beginning) (last : Moment) (pool : PoolView) (image : List ℕ)
    (call : ℕ) (op : Operation) : Type 0 where
  pub id : Oid
  pub named : Contains (ids_named (lists_before (last.past.drew call)).pending op) id
  pub why : (id.pool ≢ b.pool)
      ⊎ (LackedObject b last pool image call id.off
      ⊎ (is_gone (lists_before (last.past.drew call)) id.off ≡ true))

-- EACH CALL WHOSE LAST OPERATION WAS RECORDED AS NoObject has its cause; or what it published asked
-- something of an object that was to be freed already
abbrev pub MissedCallsHaveCauses : Type 0
MissedCallsHaveCauses = (before layout words image : List ℕ) (b : Beginning) (back : List View)
    (call : ℕ) (op : Operation)
    → (opened : IsOpened before layout b.words.items b.shape b.pool)
    → (closed : Closes b back words) → AllAreBack b.lanes back → AllHaveFacts back
    → call < closed.last.past.length
    → last_of (closed.last.past.drew call).call
    ≡ Some (record { operation = op; reply = Some (Refused NoObject) })
    → HasMissCause b closed.last opened.pool image call op
    ⊎ ((lists_before (closed.last.past.drew call)).pending.late ≡ true)

-- THE ENTRIES OF A LANE as a call of it took its number are its calls before that one
abbrev pub EntriesAreBefore : Type 0
EntriesAreBefore = (b : Beginning) (back : List View) (words : List ℕ) (call : ℕ)
    → (closed : Closes b back words) → call < closed.last.past.length
    → (closed.last.past.drew call).entries
    ≡ numbered_by (drawn_by closed.last.past call) closed.last.past.drew call

-- ---- THE FATES OF CALLS

-- the entry is call `call` of the history, by this lane
pub record IsCallOf (past : Past) (lane : ℕ) (e : Numbered) : Type 0 where
  pub call : ℕ
  pub inside : call < past.length
  pub of_lane : (past.drew call).fixed.lane ≡ lane
  pub is : e ≡ entry_drawn call (past.drew call)

-- each entry of a lane that came back is a call of the history
abbrev pub EntriesAreCalls : Type 0
EntriesAreCalls = (b : Beginning) (back : List View) (words : List ℕ) (n : ℕ) (v : View)
    (e : Numbered) → (closed : Closes b back words) → get_elem? back n ≡ some v
    → Contains v.entries e → IsCallOf closed.last.past v.fixed.lane e

-- EACH CALL OF A LANE BUT ITS OPEN ONE is kept by every image
abbrev pub OtherCallsAreKept : Type 0
OtherCallsAreKept = (b : Beginning) (back : List View) (words image : List ℕ) (n : ℕ) (v : View)
    (number : Option ℕ) (call : ℕ) → (closed : Closes b back words) → get_elem? back n ≡ some v
    → EndsOpen number v → call < closed.last.past.length
    → (closed.last.past.drew call).fixed.lane ≡ v.fixed.lane → number ≢ Some (suc call)
    → keeps_call b closed.last image call ≡ true

-- OF THE OPEN ONE the words and what the lane has undrained tell whether an image that may survive
-- keeps it
abbrev pub OpenCallsAreJudged : Type 0
OpenCallsAreJudged = (b : Beginning) (back : List View) (words image : List ℕ)
    (undrained : List (List Change)) (n : ℕ) (v : View) (call : ℕ)
    → (closed : Closes b back words) → BackWith back undrained → MaySurvive b closed.last image
    → get_elem? back n ≡ some v → EndsOpen (Some (suc call)) v → call < closed.last.past.length
    → (closed.last.past.drew call).fixed.lane ≡ v.fixed.lane
    → keeps_call b closed.last image call
    ≡ is_judged_kept b.shape words (slice_index_or undrained v.fixed.lane []) image v.fixed.lane
