-- WHAT A LANE DID with its calls, beside the view in which it was left.
use Rattle.std.specs.Prelude.{◌≡◌, ◌≢◌, ◌⊎◌, ℕ, ◌%◌, ◌^◌, All, List, [], ◌++◌, length, map, reverse, take, option_map, option_to_list, slice_index_or, Option, Some, None, true}
use Rattle.std.specs.List.{AllZip}
use Rattle.std.specs.Option.{option_map_or}
use Rattle.pm_model.specs.History.{is_answered}
use Rattle.pm_script.specs.declared.script.ScriptLine.{ScriptLine}
use Rattle.pm_text.specs.declared.report.LaneEnd.TheVariants as end
use Rattle.pm_objects.specs.declared.calls.Operation.{Operation}
use Rattle.pm_view.specs.View.{Told, View}
use Rattle.pm_call.specs.Histories.{Ended, calls_ended}
use Rattle.pm_call.specs.Standing.{IsStopDue, StoppedWith}
use Rattle.pm_call.specs.Unwritten.{WritesNoRecord}
use Rattle.pm_crash.specs.Fates.{EndsOpen}
use Rattle.pm_exec.specs.Made.{AreToBeMade}
use Rattle.pm_exec.specs.Answers.{AddsRange, AreFirst, IsAnswer, IsSpentView, MayBeKeptOrLost, lines_of}
use Rattle.pm_exec.specs.declared.answer.Answer.{Answer}
use Rattle.pm_calls.specs.LaneRooms.{lines_to_run}
use Rattle.pm_exec.specs.declared.work.LaneWork.{LaneWork}

-- of the calls that are to be made
abbrev pub lines_left : {G : Type 0} → LaneWork G → List (List ScriptLine)
lines_left work = option_map_or (λ calls. map lines_to_run calls.items) work.calls []

-- the answers of a work, that of the call in which the lane stopped the last
abbrev pub all_answers : {G : Type 0} → LaneWork G → List Answer
all_answers work = work.answers.items ++ option_to_list work.unanswered

-- the lane stopped in the call after those that were answered, and that adds a range
pub record AddedNext {G : Type 0} (before after : LaneWork G) : Type 0 where
  pub calls : ℕ
  pub stopped : after.end ≡ end.Stopped calls
  pub none : after.unanswered ≡ None
  pub adds : AddsRange before.names
      (slice_index_or (lines_left before) (length after.answers.items) [])

-- THE LANE'S VIEW CAME BY PLANS, up to its stop: those of the operations of its calls that have their
-- numbers, and of the first lines of its next call
pub record CameByPlans {G : Type 0} (before after : LaneWork G) (v : View) : Type 0 where
  pub call : List Told
  pub within : Option Operation
  pub first : AreFirst before.names
      (slice_index_or (lines_left before) (length (all_answers after)) []) call within
  pub plans : StoppedWith v (record {
    lane = v.fixed.lane;
    done = calls_ended v;
    call = call;
    within = within;
  })

-- THE LANE DID ITS CALLS: the first so many of them, each as its answer shows; all of them where it
-- ended; and one of them may be unanswered, in which the lane stopped
pub record DidCalls {G : Type 0} (before after : LaneWork G) (v : View) : Type 0 where
  pub same : (after.number ≡ before.number) × (after.names ≡ before.names)
  pub calls : map lines_of (all_answers after) ≡ take (length (all_answers after)) (lines_left before)
  pub shown : AllZip (IsAnswer before.names v.fixed.lane) (all_answers after)
      (reverse (calls_ended v))
  pub answered : All (λ (a : Answer). is_answered a.fate ≡ true) after.answers.items
  pub open_ : EndsOpen (option_map (λ (a : Answer). a.number) after.unanswered) v
  -- of the unanswered call either fate may be
  pub either : (a : Answer) (d : Ended) → after.unanswered ≡ Some a
      → IsAnswer before.names v.fixed.lane a d → MayBeKeptOrLost d
  pub whole : after.end ≡ end.Ended → length after.answers.items ≡ length (lines_left before)
  pub stopped : after.unanswered ≢ None → (calls : ℕ) × (after.end ≡ end.Stopped calls)
  pub counted : (calls : ℕ) → after.end ≡ end.Stopped calls → calls ≡ length v.calls % 2 ^ 64
  pub due : (calls : ℕ) → after.end ≡ end.Stopped calls → IsStopDue v
  pub spent : (line : ℕ) → after.end ≡ end.Spent line → IsSpentView v
  -- it is writing no record, or stopped in its next call, which adds a range
  pub unwritten : WritesNoRecord v ⊎ AddedNext before after
  pub planned : CameByPlans before after v

-- a work can run whose calls may be made
abbrev pub CanRunWork : {G : Type 0} → LaneWork G → Type 0
CanRunWork work = AreToBeMade work.calls work.answers

-- what a lane's work says of it, where it had its calls yet
abbrev pub WorkLeft : {G : Type 0} → LaneWork G → LaneWork G → View → Type 0
WorkLeft before after v = before.calls ≢ None → DidCalls before after v
