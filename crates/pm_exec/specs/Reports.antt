-- THE HISTORY THAT LANES REPORT.
use Rattle.std.specs.Prelude.{◌≡◌, ℕ, suc, ◌+◌, ◌<◌, ◌≤◌, ◌==◌, Bool, true, All, Contains, if◌then◌else◌, List, [], ◌∷◌, ◌++◌, filter, length, map, take, slice_index_or, option_to_list, ◌≢◌, None, Some, vec_capacity}
use Rattle.pm_objects.specs.declared.history.Entry.{Entry}
use Rattle.pm_objects.specs.declared.history.Fate.{Fate}
use Rattle.pm_objects.specs.declared.history.Fate.TheVariants as fate
use Rattle.pm_model.specs.History.{is_answered}
use Rattle.pm_script.specs.declared.script.ScriptLine.{ScriptLine}
use Rattle.pm_text.specs.declared.report.LaneEnd.{LaneEnd}
use Rattle.pm_text.specs.declared.report.LaneEnd.TheVariants as end
use Rattle.pm_exec.specs.Answers.{entry_of}
use Rattle.pm_calls.specs.Calls.{call_of, calls_of_lane}
use Rattle.pm_calls.specs.declared.lanes.LaneRoom.{LaneRoom}
use Rattle.pm_calls.specs.declared.names.Names.{Names}
use Rattle.pm_exec.specs.declared.answer.Answer.{Answer}
use Rattle.pm_exec.specs.Works.{all_answers, lines_left}
use Rattle.pm_exec.specs.declared.work.LaneWork.{LaneWork}

-- ---- ENTRIES

-- of a call that was not answered the image tells the fate
abbrev pub open_fate : Bool → Fate
open_fate kept = if kept then fate.Kept else fate.Lost

-- those of a lane's work, where the image keeps its open call or not
abbrev pub answered_entries : Names → ℕ → List Answer → List Entry
answered_entries names lane answers = map (λ (a : Answer). entry_of names lane a a.fate) answers

abbrev pub entries_of : {G : Type 0} → Bool → LaneWork G → List Entry
entries_of kept work =
    answered_entries work.names work.number work.answers.items
    ++ map (λ (a : Answer). entry_of work.names work.number a (open_fate kept))
    (option_to_list work.unanswered)

-- those of all works, lane by lane
abbrev pub entries_from : {G : Type 0} → ℕ → List Bool → List (LaneWork G) → List Entry
entries_from k kept [] = []
entries_from k kept (work ∷ works) = entries_of (slice_index_or kept k true) work ++ entries_from (suc k) kept works

abbrev pub all_entries : {G : Type 0} → List Bool → List (LaneWork G) → List Entry
all_entries kept works = entries_from 0 kept works

-- each answer is that of one line or more
abbrev pub IsLined : Answer → Type 0
IsLined a = 1 ≤ length a.lines.items

abbrev pub HaveLines : {G : Type 0} → LaneWork G → Type 0
HaveLines work = All IsLined (all_answers work)

-- the entry is of some lane's work
pub record IsOfSomeWork {G : Type 0} (works : List (LaneWork G)) (kept : List Bool) (e : Entry) : Type 0 where
  pub lane : ℕ
  pub low : lane < length works
  pub is : (w : LaneWork G) → Contains (entries_of (slice_index_or kept lane true) (slice_index_or works lane w)) e

-- ALL OF THEM IN ORDER: in each place stands an entry of some lane with the number of the place, from 1
-- on, and each lane's entries have places
pub record AreInOrder {G : Type 0} (works : List (LaneWork G)) (kept : List Bool) (entries : List Entry) : Type 0 where
  pub each : (i : ℕ) (d : Entry) → i < length entries
      → IsOfSomeWork works kept (slice_index_or entries i d) × ((slice_index_or entries i d).number ≡ i + 1)
  pub all : (k : ℕ) (w : LaneWork G) → k < length works
      → All (λ (e : Entry). (1 ≤ e.number) × (e.number ≤ length entries)) (entries_of (slice_index_or kept k true) (slice_index_or works k w))

-- ---- WHAT A LANE REPORTS

abbrev pub entries_of_lane : ℕ → List Entry → List Entry
entries_of_lane lane entries = filter (λ (e : Entry). e.call.lane == lane) entries

-- A LANE'S ENTRIES ARE THE FIRST OF ITS CALLS, in their order, with the same names in each: all of
-- them where the lane ended; and each is answered where it did not stop
pub record IsLaneHistory (names : Names) (script : List ScriptLine) (entries : List Entry)
    (lane : ℕ) (ended : LaneEnd) : Type 0 where
  pub calls : map (λ (e : Entry). e.call) (entries_of_lane lane entries)
      ≡ take (length (entries_of_lane lane entries))
      (map (call_of names lane) (calls_of_lane lane script))
  pub whole : ended ≡ end.Ended
      → length (entries_of_lane lane entries) ≡ length (calls_of_lane lane script)
  pub answered : ((calls : ℕ) → ended ≡ end.Stopped calls → ⊥) → All (λ (e : Entry). is_answered e.fate ≡ true) (entries_of_lane lane entries)

-- ---- THE WORKS OF A SCRIPT'S LANES

-- the work is that of a lane's lines, with these names, before it ran
pub record IsWorkFor {G : Type 0} (names : Names) (script : List ScriptLine) (lane : ℕ)
    (work : LaneWork G) : Type 0 where
  pub number : work.number ≡ lane
  pub names_are : work.names ≡ names
  pub lines : lines_left work ≡ calls_of_lane lane script

-- lanes from 0 on
abbrev pub AreWorksFor : {G : Type 0} → Names → List ScriptLine → ℕ → List (LaneWork G) → Type 0
AreWorksFor {G} names script lanes works =
    (k : ℕ) (w : LaneWork G) → k < lanes → IsWorkFor names script k (slice_index_or works k w)

-- how each lane ended
abbrev pub ends_of : {G : Type 0} → List (LaneWork G) → List LaneEnd
ends_of {G} works = map (λ (w : LaneWork G). w.end) works

abbrev pub HasCalls : {G : Type 0} → LaneWork G → Type 0
HasCalls work = work.calls ≢ None

-- the work has the calls of a lane's room, with these names, and room for as many answers
pub record IsWorkOf {G : Type 0} (names : Names) (lane : ℕ) (room : LaneRoom) (work : LaneWork G)
    : Type 0 where
  pub number : work.number ≡ lane
  pub names_are : work.names ≡ names
  pub calls : work.calls ≡ Some room.calls
  pub none : work.answers.items ≡ []
  pub room_is : length room.calls.items ≤ vec_capacity work.answers

-- lanes from 0 on
pub record AreWorksOf {G : Type 0} (names : Names) (rooms : List LaneRoom)
    (works : List (LaneWork G)) : Type 0 where
  pub count : length works ≡ length rooms
  pub each : (k : ℕ) (r : LaneRoom) (w : LaneWork G) → k < length works
      → IsWorkOf names k (slice_index_or rooms k r) (slice_index_or works k w)
