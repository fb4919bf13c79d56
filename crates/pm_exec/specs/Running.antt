-- HOW FAR A LANE CAME with a call's lines, with a call, and with its calls.
use Rattle.std.specs.Prelude.{◌≡◌, ◌≢◌, ℕ, ◌^◌, ◌%◌, ◌≤◌, true, false, All, List, [], ◌∷◌, ◌++◌, length, map, option_map, option_to_list, reverse, slice_index_or, take, Option, None, Some, Result, Ok, Err, Vec}
use Rattle.std.specs.Borrow.{Bor}
use Rattle.std.specs.Global.{Global}
use Rattle.std.specs.List.{AllZip}
use Rattle.pm_objects.specs.declared.calls.Operation.{Operation}
use Rattle.pm_objects.specs.declared.history.Fate.TheVariants as fate
use Rattle.pm_objects.specs.declared.history.Value.{Value}
use Rattle.pm_model.specs.History.{is_answered}
use Rattle.pm_script.specs.declared.script.ScriptLine.{ScriptLine}
use Rattle.pm_text.specs.declared.report.LaneEnd.{LaneEnd}
use Rattle.pm_text.specs.declared.report.LaneEnd.TheVariants as end
use Rattle.pm_objects.specs.declared.refusal.Refusal.{Refusal}
use Rattle.pm_objects.specs.declared.refusal.Refusal.TheVariants as refusal
use Rattle.pm_script.specs.Operations.{opens}
use Rattle.pm_view.specs.View.{Told, View}
use Rattle.pm_world.specs.declared.lane.Lane.{Lane}
use Rattle.pm_crash.specs.Fates.{EndsOpen}
use Rattle.pm_call.specs.Histories.{Ended, LaneHistory, calls_ended}
use Rattle.pm_call.specs.Positions.{position_of, resting}
use Rattle.pm_call.specs.Standing.{IsLaneStopped, IsStopDue, StandsWith, StoppedWith}
use Rattle.pm_call.specs.Unwritten.{WritesNoRecord, is_adding_in}
use Rattle.pm_exec.specs.Answers.{AddsRange, AreFirst, IsAnswer, IsSpent, IsSpentView, LineCame, MayBeKeptOrLost, lines_of}
use Rattle.pm_calls.specs.Calls.{IsWholeFrom, line_operation}
use Rattle.pm_exec.specs.Lines.{at_level}
use Rattle.pm_exec.specs.Shown.{GoesOn}
use Rattle.pm_exec.specs.declared.answer.Answer.{Answer}
use Rattle.pm_exec.specs.declared.call_end.CallEnd.{CallEnd}
use Rattle.pm_exec.specs.declared.call_end.CallEnd.TheVariants as ends
use Rattle.pm_calls.specs.declared.names.Names.{Names}
use Rattle.pm_exec.specs.declared.line_end.LineEnd.{LineEnd}
use Rattle.pm_exec.specs.declared.line_end.LineEnd.TheVariants as line_ends

-- ---- BETWEEN TWO CALLS

-- the lane is, with this history
abbrev pub RestsWith : {M : Type 0} → (M → View → Type 0) → Lane M → LaneHistory → Type 0
RestsWith at lane h = StandsWith at lane h × (position_of lane ≡ resting)

-- with some history
abbrev pub Rested : {M : Type 0} → (M → View → Type 0) → Lane M → Type 0
Rested at lane = (h : LaneHistory) × RestsWith at lane h

-- ---- THE LINES OF A CALL

-- the first of these lines opens a transaction
abbrev pub OpensWith : List ScriptLine → Type 0
OpensWith lines = (first : ScriptLine) × (more : List ScriptLine) × (lines ≡ first ∷ more) × (opens first.operation ≡ true)

-- THE LINES SO FAR WENT ON, of a call that the lane began with this history: they told so much and gave
-- these values; and the lines left are the rest of the call, with so many levels open before them
pub record WentOn {M : Type 0} (at : M → View → Type 0) (lane : Lane M) (names : Names) (h : LaneHistory)
    (front rest : List ScriptLine) (values : List (ℕ × Value)) : Type 0 where
  pub told : List Told
  pub goes : GoesOn names front told values
  pub level : ℕ
  pub stands : StandsWith at lane (record h { call = told })
  pub here : position_of lane ≡ at_level level
  pub rest_of_call : IsWholeFrom level rest
  pub first : level ≡ 0 → front ≡ []
  pub begun : 1 ≤ level → OpensWith front

-- what a line that went on gave, with its number
abbrev pub gave : ℕ → Option Value → List (ℕ × Value)
gave line None = []
gave line (Some value) = (line, value) ∷ []

-- the call does not go on
abbrev pub IsLast : LineEnd → Type 0
IsLast (line_ends.GoesOn reply) = ⊥
IsLast e = Unit {0}

-- the lane between two calls, with this history, began a call's lines, and they came to this at this line:
-- those before it went on, and gave these values; no line stands behind where no level is open
pub record LinesRan {M : Type 0} (at : M → View → Type 0) (lane : Lane M) (names : Names) (h : LaneHistory)
    (lines : List ScriptLine) (values : List (ℕ × Value)) (line : ℕ) (e : LineEnd) : Type 0 where
  pub front : List ScriptLine
  pub said : ScriptLine
  pub passed : List ScriptLine
  pub are : lines ≡ front ++ said ∷ passed
  pub of_line : said.line ≡ line
  pub told : List Told
  pub goes : GoesOn names front told values
  pub level : ℕ
  pub behind : ℕ
  pub came : LineCame at lane (line_operation names said) level behind (record h { call = told }) e
  pub first : level ≡ 0 → front ≡ []
  pub begun : 1 ≤ level → OpensWith front
  pub over : behind ≡ 0 → passed ≡ []
  pub last : IsLast e

-- ---- A CALL

-- the root was looked up, or no generation or number is left: the lane is between two calls still; or it
-- stopped, without a number
abbrev pub RootCame : {M : Type 0} → (M → View → Type 0) → Lane M → LaneHistory
    → Result (Unit {0}) Refusal → Type 0
RootCame at lane h (Ok done) = RestsWith at lane h
RootCame at lane h (Err refusal.Spent) = IsSpent at lane h
RootCame at lane h (Err r) = StandsWith at lane h × (lane.stopped ≡ true) × (lane.drawn ≡ None)

-- one call more has its number
abbrev pub with_ended : Ended → LaneHistory → LaneHistory
with_ended d h = record h { done = d ∷ h.done; call = [] }

-- what is told of a call of these lines in which the lane stopped, with this number
abbrev pub lost_call : Vec (Bor ScriptLine) Global → Vec (ℕ × Value) Global → ℕ → Answer
lost_call lines values n =
    record { lines = lines; number = n; values = values; at = 0; fate = fate.Lost }

-- it was answered, and the lane is between two calls; or the lane stopped in it, with its number or
-- without one; or no number was left for it
abbrev pub CallCame : {M : Type 0} → (M → View → Type 0) → Lane M → Names → LaneHistory
    → List ScriptLine → CallEnd → Type 0
CallCame at lane names h lines (ends.Answered a) =
    (d : Ended) × RestsWith at lane (with_ended d h)
    × (lines_of a ≡ lines) × IsAnswer names h.lane a d × (is_answered a.fate ≡ true)
CallCame at lane names h lines (ends.Stopped None) =
    (told : List Told) × (within : Option Operation)
    × StandsWith at lane (record h { call = told; within = within }) × (lane.stopped ≡ true)
    × (lane.drawn ≡ None) × (is_adding_in within ≡ true → AddsRange names lines)
    × AreFirst names lines told within
CallCame at lane names h lines (ends.Stopped (Some a)) =
    (d : Ended) × StandsWith at lane (with_ended d h) × (lane.stopped ≡ true)
    × (lane.drawn ≡ Some a.number)
    × (lines_of a ≡ lines) × IsAnswer names h.lane a d × (a.fate ≡ fate.Lost)
CallCame at lane names h lines (ends.Spent line) = IsSpent at lane h

-- ---- CALLS

-- the calls of a lane that made none before: the first so many were answered, and the lane stands with
-- them; it may have stopped in the next, with its number or without
pub record CallsCame {M : Type 0} (at : M → View → Type 0) (lane : Lane M) (names : Names)
    (number : ℕ) (calls : List (List ScriptLine)) (answers : List Answer)
    (unanswered : Option Answer) (e : LaneEnd) : Type 0 where
  -- what it told, the first call first, and in a call without a number; and the operation of this in
  -- which it stopped, if it did
  pub done : List Ended
  pub call : List Told
  pub within : Option Operation
  pub stands : StandsWith at lane
      (record { lane = number; done = reverse done; call = call; within = within })
  pub adds : is_adding_in within ≡ true
      → (unanswered ≡ None) × AddsRange names (slice_index_or calls (length answers) [])
  pub first : AreFirst names
      (slice_index_or calls (length (answers ++ option_to_list unanswered)) []) call within
  pub of_calls : map lines_of (answers ++ option_to_list unanswered) ≡ take (length (answers ++ option_to_list unanswered)) calls
  pub shown : AllZip (IsAnswer names number) (answers ++ option_to_list unanswered) done
  pub answered : All (λ (a : Answer). is_answered a.fate ≡ true) answers
  pub either : (a : Answer) (d : Ended) → unanswered ≡ Some a → IsAnswer names number a d
      → MayBeKeptOrLost d
  -- it stopped, or is between two calls
  pub stopped : lane.stopped ≡ true → lane.drawn ≡ option_map (λ (a : Answer). a.number) unanswered
  pub going : lane.stopped ≡ false → (position_of lane ≡ resting) × (unanswered ≡ None)
  pub whole : e ≡ end.Ended → length answers ≡ length calls
  -- where it did not stop it says so
  pub unstopped : lane.stopped ≡ false → (n : ℕ) → e ≢ end.Stopped n
  -- and where it says that it was spent it was
  pub spent : (line : ℕ) → e ≡ end.Spent line
      → IsSpent at lane
      (record { lane = number; done = reverse done; call = call; within = within })

-- ---- THE END OF A LANE'S CALLS

-- the lane that stood with this history makes no call any more; how it ended is as before, or it stopped,
-- as was due, with so many counted calls
pub record Closed {M : Type 0} (at : M → View → Type 0) (old new : Lane M) (h : LaneHistory) (before e : LaneEnd) : Type 0 where
  pub stops : IsLaneStopped at new
  pub done : calls_ended stops.view ≡ h.done
  pub lane : stops.view.fixed.lane ≡ h.lane
  pub ends : EndsOpen old.drawn stops.view
  pub going : old.stopped ≡ false → e ≡ before
  pub stopped : old.stopped ≡ true → e ≡ end.Stopped (length stops.view.calls % 2 ^ 64)
  pub due : old.stopped ≡ true → IsStopDue stops.view
  pub unwritten : is_adding_in h.within ≡ false → WritesNoRecord stops.view
  pub plans : StoppedWith stops.view h

-- a lane that was spent, with this history, makes no call any more, and has no number still
pub record SpentClosed {M : Type 0} (at : M → View → Type 0) (old new : Lane M) (h : LaneHistory)
    : Type 0 where
  pub stops : IsLaneStopped at new
  pub done : calls_ended stops.view ≡ h.done
  pub lane : stops.view.fixed.lane ≡ h.lane
  pub ends : EndsOpen old.drawn stops.view
  pub spent : IsSpentView stops.view
  pub unwritten : WritesNoRecord stops.view
  pub plans : StoppedWith stops.view h
