-- THE HISTORY OF A LANE, by its view; and what the plans of operations make of it, as laws of data.
-- All else of a plan leaves it as it is.
use Rattle.std.specs.Prelude.{◌≡◌, ℕ, zero, suc, List, [], ◌∷◌, ◌++◌, flat_map, map, reverse, take, Option, None, Some, Result, Ok, Err}
use Rattle.std.specs.List.{cons_option}
use Rattle.pm_model.specs.Pending.{SetWord}
use Rattle.pm_objects.specs.declared.calls.Operation.{Operation}
use Rattle.pm_objects.specs.declared.calls.Operation.TheVariants.{AddRange, Cancel, Commit, Increment, Publish, Read, Write}
use Rattle.pm_objects.specs.declared.history.Value.{Value}
use Rattle.pm_objects.specs.declared.history.Value.TheVariants.{Bytes, Number, Refused}
use Rattle.pm_objects.specs.declared.ids.Oid.{Oid}
use Rattle.pm_objects.specs.declared.refusal.Refusal.{Refusal}
use Rattle.pm_objects.specs.declared.refusal.Refusal.TheVariants as refusal
use Rattle.pm_record.specs.declared.redo.Redo.{Redo}
use Rattle.pm_view.specs.View.{Numbered, Told, View}
use Rattle.pm_view.specs.Views.{after_all}
use Rattle.pm_world.specs.declared.lane.Lane.{Lane}
use Rattle.pm_crash.specs.Looked.{bytes_seen}
use Rattle.pm_plan.specs.Plans.{Plan, known_word}
use Rattle.pm_call.specs.Planned.{Planned, operation_of, steps_of}
use Rattle.pm_call.specs.Publications.{publishes}
use Rattle.pm_call.specs.Plans.{adds, cancels, commits, commits_inner, ends_call, gets, gives_up, increments, known_sum, logs_entries, puts}

-- ---- WHAT A LANE TOLD

-- a call that has its number, with its operations and their replies
pub record Ended : Type 0 where
  pub number : ℕ
  pub call : List Told

-- which lane it is; its calls that have their numbers, the last first; the open call so far; and the
-- operation of it in which the lane stopped, if it did
pub record LaneHistory : Type 0 where
  pub lane : ℕ
  pub done : List Ended
  pub call : List Told
  pub within : Option Operation

abbrev pub ended_of : Numbered → Ended
ended_of e = record { number = e.number; call = e.call }

abbrev pub calls_ended : View → List Ended
calls_ended v = map ended_of v.entries

-- a call that has its number is not open any more
abbrev pub open_call : Option ℕ → List Told → List Told
open_call None call = call
open_call (Some n) call = []

abbrev pub history_of : View → LaneHistory
history_of v = record {
  lane = v.fixed.lane;
  done = calls_ended v;
  call = open_call v.number v.call;
  within = None;
}

-- of a lane that made no call
abbrev pub nothing_told : ℕ → LaneHistory
nothing_told lane = record { lane = lane; done = []; call = []; within = None }

-- the operations of a history, the latest first
abbrev pub operations_told : List Told → List Operation
operations_told told = reverse (map (λ (t : Told). t.operation) told)

abbrev pub operations_in : LaneHistory → List Operation
operations_in h = cons_option h.within
    (operations_told h.call ++ flat_map (λ (e : Ended). operations_told e.call) h.done)

-- the last number
abbrev pub last_ended : List Ended → ℕ
last_ended [] = 0
last_ended (e ∷ done) = e.number

-- ---- HOW IT GROWS

-- an operation, with its reply
abbrev pub told : Operation → Option Value → Told
told op reply = record { operation = op; reply = reply }

-- the open call recorded one more operation
abbrev pub told_more : Operation → Option Value → LaneHistory → LaneHistory
told_more op reply h = record h { call = h.call ++ told op reply ∷ [] }

-- it recorded its last operation, and has this number
abbrev pub told_last : ℕ → Operation → Option Value → LaneHistory → LaneHistory
told_last n op reply h = record h {
  done = record { number = n; call = h.call ++ told op reply ∷ [] } ∷ h.done;
  call = [];
}

-- on the way of its last operation: it records that once it has a number
abbrev pub told_by : Option ℕ → Operation → Option Value → LaneHistory → LaneHistory
told_by None op reply h = record h { within = Some op }
told_by (Some n) op reply h = told_last n op reply h

-- ---- HOW A CALL TURNS IT, by what the call returned, and by the lane's numbers then

-- no reply
abbrev pub no_value : Unit {0} → Option Value
no_value done = None

-- an operation of a transaction: it is done; or the lane stopped in it; or it is refused, which ends
-- the call
abbrev pub turned : {M T : Type 0} → Lane M → Operation → (T → Option Value) → Result T Refusal
    → LaneHistory → LaneHistory
turned lane op reply (Ok x) h = told_more op (reply x) h
turned lane op reply (Err refusal.Stopped) h = told_by lane.drawn op None h
turned lane op reply (Err r) h = told_last lane.last op (Some (Refused r)) h

-- the same of an operation that ends its call
abbrev pub turned_last : {M : Type 0} → Lane M → Operation → Result (Unit {0}) Refusal
    → LaneHistory → LaneHistory
turned_last lane op (Ok done) h = told_last lane.last op None h
turned_last lane op (Err refusal.Stopped) h = told_by lane.drawn op None h
turned_last lane op (Err r) h = told_last lane.last op (Some (Refused r)) h

-- and of one outside a transaction, for which perhaps no number is left
abbrev pub turned_alone : {M : Type 0} → Lane M → Operation → Result (Unit {0}) Refusal
    → LaneHistory → LaneHistory
turned_alone lane op (Err refusal.Spent) h = h
turned_alone lane op result h = turned_last lane op result h

-- the same of a begin outside a transaction
abbrev pub turned_open : {M : Type 0} → Lane M → Operation → Result (Unit {0}) Refusal
    → LaneHistory → LaneHistory
turned_open lane op (Err refusal.Spent) h = h
turned_open lane op result h = turned lane op no_value result h

-- a commit ends the call at the outermost level
abbrev pub turned_commit : {M : Type 0} → ℕ → Lane M → Result (Unit {0}) Refusal → LaneHistory
    → LaneHistory
turned_commit (suc zero) lane result h = turned_last lane Commit result h
turned_commit level lane result h = turned lane Commit no_value result h

-- where the stage refuses it nothing is recorded
abbrev pub unless : Option Refusal → LaneHistory → LaneHistory → LaneHistory
unless (Some r) next h = h
unless None next h = next

-- the plan from this view is that of the operation
pub record IsPlanOf (plan : Plan) (op : Operation) (v : View) : Type 0 where
  pub by : Planned
  pub operation : operation_of by ≡ Some op
  pub same : plan v ≡ steps_of by v

-- ---- THE LAWS: a plan of an operation that goes on, and of one that ends its call, whole and on the
-- way
pub record PlanTellsMore (plan : Plan) (op : Operation) (reply : View → Option Value) : Type 0 where
  pub planned : (v : View) → IsPlanOf plan op v
  pub whole : (v : View) → v.number ≡ None
      → history_of (after_all v (plan v)) ≡ told_more op (reply v) (history_of v)
  pub on_the_way : (v : View) (k : ℕ) → v.number ≡ None
      → calls_ended (after_all v (take k (plan v))) ≡ calls_ended v
  pub unnumbered : (v : View) (k : ℕ) → v.number ≡ None
      → (after_all v (take k (plan v))).number ≡ None

pub record PlanTellsLast (plan : Plan) (op : Operation) (reply : Option Value) (n : ℕ) : Type 0 where
  pub whole : (v : View) → v.number ≡ None
      → history_of (after_all v (plan v)) ≡ told_last (suc n) op reply (history_of v)
  pub on_the_way : (v : View) (k : ℕ) → v.number ≡ None
      → calls_ended (after_all v (take k (plan v)))
      ≡ (told_by (after_all v (take k (plan v))).number op reply (history_of v)).done

abbrev pub none_replied : View → Option Value
none_replied v = None

abbrev pub AddsTell : Type 0
AddsTell =
    (id : Oid) (off len : ℕ)
    → PlanTellsMore (adds id off len) (AddRange id off len) none_replied

abbrev pub WritesTell : Type 0
WritesTell = (id : Oid) (off : ℕ) (bytes : List ℕ)
    → PlanTellsMore (puts id off bytes) (Write id off bytes) none_replied

abbrev pub ReadsTell : Type 0
ReadsTell = (id : Oid) (off len : ℕ) → PlanTellsMore (gets id off len) (Read id off len)
    (λ v. Some (Bytes (bytes_seen (known_word v) id.off off len)))

abbrev pub IncrementsTell : Type 0
IncrementsTell = (id : Oid) (off by : ℕ)
    → PlanTellsMore (increments id off by) (Increment id off by)
    (λ v. Some (Number (known_sum v id off by)))

abbrev pub CancelsTell : Type 0
CancelsTell = PlanTellsMore cancels Cancel none_replied

abbrev pub InnerCommitsTell : Type 0
InnerCommitsTell = PlanTellsMore commits_inner Commit none_replied

abbrev pub RollbacksTell : Type 0
RollbacksTell = (op : Operation) (reply : Option Value) (n : ℕ)
    → PlanTellsLast (gives_up op reply n) op reply n

abbrev pub CommitsTell : Type 0
CommitsTell = (entries : List Redo) (found : ℕ → ℕ) (n : ℕ)
    → PlanTellsLast (commits entries found n) Commit None n

abbrev pub LogsTell : Type 0
LogsTell = (op : Operation) (entries : List Redo) (found : ℕ → ℕ) (n : ℕ)
    → PlanTellsLast (logs_entries op entries found n) op None n

abbrev pub LoneCallsTell : Type 0
LoneCallsTell = (op : Operation) (reply : Option Value) (n : ℕ)
    → PlanTellsLast (ends_call op reply n) op reply n

abbrev pub PublishesTell : Type 0
PublishesTell = (words : List SetWord) (found : ℕ → ℕ) (n : ℕ)
    → PlanTellsLast (publishes words found n) Publish None n
