-- WHAT A CALL OF A LANE ANSWERED, beside what the lane told in it.
use Rattle.std.specs.Prelude.{◌≡◌, ◌⊎◌, ℕ, suc, ◌+◌, ◌≤◌, true, false, Contains, List, ◌++◌, length, map, take, option_map, option_to_list, Option, Some, None}
use Rattle.std.specs.Option.{ForSome}
use Rattle.pm_objects.specs.declared.calls.Operation.{Operation}
use Rattle.pm_objects.specs.declared.calls.Operation.TheVariants.{Abort, Commit}
use Rattle.pm_objects.specs.declared.history.Entry.{Entry}
use Rattle.pm_objects.specs.declared.history.Fate.{Fate}
use Rattle.pm_objects.specs.declared.history.Fate.TheVariants as fate
use Rattle.pm_objects.specs.declared.history.Reply.{Reply}
use Rattle.pm_objects.specs.declared.history.TxErr.{TxErr}
use Rattle.pm_objects.specs.declared.history.TxErr.TheVariants as error
use Rattle.pm_objects.specs.declared.history.Value.{Value}
use Rattle.pm_objects.specs.declared.history.Value.TheVariants.{Refused}
use Rattle.pm_objects.specs.declared.refusal.Refusal.{Refusal}
use Rattle.pm_objects.specs.declared.refusal.Refusal.{Refusal}
use Rattle.pm_model.specs.CallStep.{CallRun}
use Rattle.pm_model.specs.Inside.{Ran, error_for, is_action, is_begin}
use Rattle.pm_model.specs.Outside.{is_outside}
use Rattle.pm_model.specs.Parts.{no_parts}
use Rattle.pm_model.specs.Shown.{IsFate, IsShown, aborts, is_single}
use Rattle.pm_script.specs.declared.script.ScriptLine.{ScriptLine}
use Rattle.pm_layout.specs.Areas.{greatest_generation}
use Rattle.pm_view.specs.Log.{is_early}
use Rattle.pm_view.specs.Steps.Step.{NumberSeen}
use Rattle.pm_view.specs.View.{Told, View}
use Rattle.pm_world.specs.LaneFields.{Rests, Standing}
use Rattle.pm_crash.specs.Facts.{last_of}
use Rattle.pm_call.specs.Between.{MayOpen}
use Rattle.pm_call.specs.Did.{unseen}
use Rattle.pm_call.specs.Histories.{Ended, LaneHistory, told_by, told_last, told_more}
use Rattle.pm_call.specs.Positions.{aborted_at, position_of, resting, working}
use Rattle.pm_call.specs.Standing.{HasHistory, StandsWith}
use Rattle.pm_world.specs.declared.lane.Lane.{Lane}
use Rattle.pm_call.specs.Unwritten.{is_adding}
use Rattle.pm_calls.specs.Calls.{call_of, line_of, line_operation}
use Rattle.pm_exec.specs.declared.answer.Answer.{Answer}
use Rattle.pm_calls.specs.declared.names.Names.{Names}
use Rattle.pm_exec.specs.declared.line_end.LineEnd.{LineEnd}
use Rattle.pm_exec.specs.declared.line_end.LineEnd.TheVariants as ends

-- ---- A CALL, as the lane told it

-- an operation as it ran. What the lane saw plays no part in how the call is shown
abbrev pub ran_of : Told → Ran
ran_of t = record { operation = t.operation; seen = unseen; reply = t.reply }

abbrev pub rans_of : List Told → List Ran
rans_of told = map ran_of told

abbrev pub run_of : ℕ → List Told → CallRun
run_of lane told = record { lane = lane; operations = rans_of told; parts = no_parts }

-- ---- AN ANSWER

abbrev pub lines_of : Answer → List ScriptLine
lines_of a = map line_of a.lines.items

abbrev pub reply_of : Answer → Reply
reply_of a = record { values = a.values.items; at = a.at }

-- it may have this fate, by what was told
abbrev pub MayHaveFate : List Told → Fate → Type 0
MayHaveFate told f = IsFate (is_single (rans_of told)) (rans_of told) f

-- the refusal for which a call was aborted, or with which a call of one operation was answered
abbrev pub refused_as : Fate → Option Refusal
refused_as (fate.Aborted (error.Refused r)) = Some r
refused_as (fate.Refused r) = Some r
refused_as f = None

-- a call ended with an operation whose recorded reply is this refusal
pub record EndedAs (r : Refusal) (told : List Told) : Type 0 where
  pub operation : Operation
  pub last : last_of told ≡ Some (record { operation = operation; reply = Some (Refused r) })

-- so it did with the refusal of its fate
abbrev pub EndsAsRecorded : List Told → Fate → Type 0
EndsAsRecorded told f = (r : Refusal) → refused_as f ≡ Some r → EndedAs r told

-- THE ANSWER SHOWS THE CALL of a lane, in lines with these names: its number, its lines with what
-- they gave, and its fate
pub record IsAnswer (names : Names) (lane : ℕ) (a : Answer) (d : Ended) : Type 0 where
  pub number : a.number ≡ d.number
  pub shown : IsShown (call_of names lane (lines_of a)) (reply_of a) (run_of lane d.call)
  pub fate : MayHaveFate d.call a.fate
  pub ended : EndsAsRecorded d.call a.fate

-- of a call that was not answered either is so: an image may keep it or lose it
abbrev pub MayBeKeptOrLost : Ended → Type 0
MayBeKeptOrLost d = MayHaveFate d.call fate.Kept × MayHaveFate d.call fate.Lost

-- the entry of the call, with this fate
abbrev pub entry_of : Names → ℕ → Answer → Fate → Entry
entry_of names lane a f = record {
  number = a.number;
  call = call_of names lane (lines_of a);
  reply = reply_of a;
  fate = f;
}

-- ---- NO NUMBER IS LEFT

-- for the next call of a lane with this view: its generation is the greatest, or it saw that as many
-- numbers were drawn
abbrev pub HasNoNumber : View → Type 0
HasNoNumber v = (greatest_generation v.fixed.shape ≤ v.log.generation)
    ⊎ ((n : ℕ) × (greatest_generation v.fixed.shape ≤ n) × Contains v.seen (NumberSeen n))

-- so it is of a lane whose call has no number
pub record IsSpentView (v : View) : Type 0 where
  pub none : HasNoNumber v
  pub early : is_early v.log.phase ≡ true

-- A LANE IS SPENT: it is between two calls, with this history, and has no number for the next
pub record IsSpent {M : Type 0} (at : M → View → Type 0) (lane : Lane M) (h : LaneHistory)
    : Type 0 where
  pub stands : StandsWith at lane h
  pub here : position_of lane ≡ resting
  pub standing : Standing
  pub rests : Rests at lane standing
  pub between : MayOpen standing
  pub same : HasHistory standing.view h
  pub none : HasNoNumber standing.view

-- ---- A LINE, and what it came to

-- A LINE ADDS A RANGE, of a call's lines with these names
pub record AddsRange (names : Names) (lines : List ScriptLine) : Type 0 where
  pub line : ScriptLine
  pub among : Contains lines line
  pub adds : is_adding (line_operation names line) ≡ true

-- THE OPERATIONS OF AN OPEN CALL, and that in which its lane stopped, are those of the first of these
-- lines
abbrev pub AreFirst : Names → List ScriptLine → List Told → Option Operation → Type 0
AreFirst names lines call within =
    map (λ (t : Told). t.operation) call ++ option_to_list within
    ≡ take (length call + length (option_to_list within)) (map (line_operation names) lines)

-- the operation with its reply aborts nothing
abbrev pub GoesOnSo : Operation → Option Value → Type 0
GoesOnSo op reply = aborts (ran_of (record { operation = op; reply = reply })) ≡ false

-- with this reply it gives the transaction up, with this error
abbrev pub GivesUpSo : Operation → Option Value → TxErr → Type 0
GivesUpSo op reply e =
    ((r : Refusal) × (is_action op ≡ false) × (reply ≡ Some (Refused r)) × (e ≡ error.Refused r))
    ⊎ ((errnum : ℕ) × (op ≡ Abort errnum) × (reply ≡ None) × (e ≡ error_for errnum))

-- it ends its call, refused so or not: a commit, or an operation outside of a transaction
abbrev pub EndsSo : Operation → ℕ → Option Refusal → Type 0
EndsSo op level why =
    ((op ≡ Commit) × (level ≡ 1) × (why ≡ None)) ⊎ ((is_outside op ≡ true) × (level ≡ 0))

-- A LINE CAME TO THIS, with so many levels open before it, and so many behind it where it goes on: the
-- lane stands with the history turned so, and is here in its transactions
abbrev pub LineCame : {M : Type 0} → (M → View → Type 0) → Lane M → Operation → ℕ → ℕ → LaneHistory → LineEnd → Type 0
LineCame at lane op level behind h (ends.GoesOn reply) =
    StandsWith at lane (told_more op reply h) × (position_of lane ≡ working behind) × (1 ≤ behind) × GoesOnSo op reply
LineCame at lane op level behind h (ends.Over why) =
    StandsWith at lane (told_last lane.last op (option_map Refused why) h) × (position_of lane ≡ resting) × (behind ≡ 0) × EndsSo op level why
LineCame at lane op level behind h (ends.GivenUp e) =
    (reply : Option Value) × (n : ℕ) × GivesUpSo op reply e × StandsWith at lane (told_last lane.last op reply h)
    × (position_of lane ≡ aborted_at e (suc n)) × (level ≡ 0 → is_begin op ≡ true)
LineCame at lane op level behind h ends.Stopped =
    StandsWith at lane (told_by lane.drawn op None h) × (lane.stopped ≡ true)
    × ForSome lane.drawn (λ n. (behind ≡ 0) × EndsSo op level None)
LineCame at lane op level behind h ends.Spent = IsSpent at lane h
