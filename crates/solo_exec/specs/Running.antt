-- How far a run has come, call by call: for the crate's own functions.
use Rattle.std.specs.Prelude.{◌≡◌, ◌⊎◌, ℕ, ◌%◌, ◌^◌, List, [], ◌∷◌, ◌++◌, slice_index, Option, None, Some, ◌<◌}
use Rattle.solo_crash.specs.Alone.{Begins, Rests, standing}
use Rattle.pm_header.specs.declared.header.Header.{Header}
use Rattle.solo_memory.specs.Solo.{Sees, Solo}
use Rattle.pm_objects.specs.declared.history.Entry.{Entry}
use Rattle.pm_objects.specs.declared.history.Fate.TheVariants as fate
use Rattle.pm_objects.specs.declared.history.Reply.{Reply}
use Rattle.pm_objects.specs.declared.pool.PoolView.{PoolView}
use Rattle.solo_script.specs.declared.script.ScriptLine.{ScriptLine}
use Rattle.pm_text.specs.declared.report.LaneEnd.TheVariants as end
use Rattle.solo_action.specs.Canceling.{finishes}
use Rattle.solo_lock.specs.Resting.{IsAtRest, IsFresh}
use Rattle.pm_text.specs.declared.report.LaneEnd.{LaneEnd}
use Rattle.solo_view.specs.Counts.{IsAtStop}
use Rattle.solo_made.specs.Made.{BlockLists}
use Rattle.solo_transaction.specs.AtWork.{AreForPool}
use Rattle.solo_view.specs.Constants.{IsSameLane}
use Rattle.solo_view.specs.Log.{no_log}
use Rattle.solo_view.specs.Log.Phase.{Idle}
use Rattle.solo_view.specs.View.{View}
use Rattle.solo_world.specs.Lanes.{IsOfShape}
use Rattle.solo_world.specs.Opening.{Opening}
use Rattle.solo_world.specs.Records.{generation_of}
use Rattle.solo_world.specs.declared.lane.Lane.{Lane}
use Rattle.solo_exec.specs.Bounds.{IsWalked, stores_of_calls}
use Rattle.solo_exec.specs.Calls.{call_of, numbers_of}
use Rattle.solo_exec.specs.Course.{CallsMade, IsFinishMade, IsFree, IsFrontOf, IsSpentAt}
use Rattle.solo_exec.specs.Replies.{AreEntries}
use Rattle.solo_exec.specs.Progress.{IsHalted, IsStart, IsUnbegun, KeepsReserved}
use Rattle.solo_exec.specs.declared.calls.Names.{Names}
use Rattle.solo_exec.specs.declared.running.Halt.{Halt}
use Rattle.solo_crash.specs.Pending.{pending_before}
use Rattle.solo_model.specs.Actions.{none_pending}
use Rattle.solo_pending.specs.AllPending.{IsPendingAs}
use Rattle.solo_pending.specs.declared.pending.PendingActions.{PendingActions}

-- these calls were answered, one after another from the first view, and led to this view. Wherever the lane began, it begins again here, over words
-- that have the opening's header page
pub record HasCalled (o : Opening) (first : View) (names : Names) (calls : List (List ScriptLine)) (history : List Entry) (view : View) : Type 0 where
  pub are : AreEntries names calls history view.entries
  pub again : (header : Header) (pool : PoolView) → Begins o header pool first → Begins (standing o view) header pool view
  pub page : (header : Header) (pool : PoolView) → Begins o header pool first → (i : ℕ) → i < 512 → slice_index view.words i ≡ slice_index o.words i
  pub same : IsSameLane first view
  pub made : CallsMade names calls history first view
  pub bound : IsWalked first view (stores_of_calls names calls)

-- and the lane rests behind them
pub record HasAnswered (o : Opening) (first : View) (lane : Lane Solo) (blocks : BlockLists) (actions : PendingActions) (names : Names) (calls : List (List ScriptLine)) (history : List Entry) : Type 0 where
  pub view : View
  pub called : HasCalled o first names calls history view
  pub rests : IsAtRest Sees lane view
  pub idle : view.log ≡ no_log Idle
  pub keeps : KeepsReserved (standing o view) lane.shape view
  pub pages : AreForPool blocks view
  pub pending : IsPendingAs actions (pending_before view)

-- so it did from where it began
pub record HasComeTo (o : Opening) (first : View) (lane : Lane Solo) (blocks : BlockLists) (actions : PendingActions) (names : Names) (calls : List (List ScriptLine)) (history : List Entry) : Type 0 where
  pub header : Header
  pub pool : PoolView
  pub begins : Begins o header pool first
  pub answered : HasAnswered o first lane blocks actions names calls history

-- a lane of the pool may begin a call, whatever lists it has for its pool: nothing is pending
pub record MayStart (o : Opening) (first : View) (lane : Lane Solo) : Type 0 where
  pub of_shape : IsOfShape first lane.shape
  pub starts : (blocks : BlockLists) (actions : PendingActions) → AreForPool blocks first → IsPendingAs actions none_pending → IsStart o lane blocks actions first

-- before the first call none was answered, and the lane may begin one, whatever lists it has for its pool
pub record MayRun (o : Opening) (first : View) (lane : Lane Solo) (names : Names) (history : List Entry) : Type 0 where
  pub of_shape : IsOfShape first lane.shape
  pub begins : (blocks : BlockLists) (actions : PendingActions) → AreForPool blocks first → IsPendingAs actions none_pending → HasComeTo o first lane blocks actions names [] history

-- the entry of a call that was not answered, as lost, if it drew a number
abbrev pub open_entry : Names → List ScriptLine → Option ℕ → Reply → Option Entry
open_entry names lines None reply = None
open_entry names lines (Some n) reply = Some (record { number = n; call = call_of names lines; reply = reply; fate = fate.Lost })

-- the lane stopped in the call of these lines, behind others
pub record HasStopped (o : Opening) (first : View) (lane : Lane Solo) (names : Names) (answered : List (List ScriptLine)) (lines : List ScriptLine) (history : List Entry) (halt : Halt) : Type 0 where
  pub before : View
  pub called : HasCalled o first names answered history before
  pub idle : before.log ≡ no_log Idle
  pub number : Option ℕ
  pub reply : Reply
  pub halted : IsHalted (standing o before) before lane names lines number reply
  pub is_open : halt.is_open ≡ open_entry names lines number reply
  pub generation : halt.generation ≡ generation_of before
  pub ends : halt.end ≡ end.Stopped (halted.cut.view.calls % 2 ^ 64)

-- it could not begin the call of these lines. The list is what is pending still
pub record HasSpent (o : Opening) (first : View) (lane : Lane Solo) (actions : PendingActions) (names : Names) (answered : List (List ScriptLine)) (lines : List ScriptLine) (history : List Entry) (halt : Halt) : Type 0 where
  pub header : Header
  pub pool : PoolView
  pub begins : Begins o header pool first
  pub before : View
  pub called : HasCalled o first names answered history before
  pub idle : before.log ≡ no_log Idle
  pub keeps : KeepsReserved (standing o before) lane.shape before
  pub unbegun : IsUnbegun before lane actions
  pub is_open : halt.is_open ≡ None
  pub generation : halt.generation ≡ generation_of before
  pub line : ℕ
  pub of_line : slice_index (numbers_of lines) 0 ≡ line
  pub ends : halt.end ≡ end.Spent line

abbrev pub HasHalted : Opening → View → Lane Solo → PendingActions → Names → List (List ScriptLine) → List ScriptLine → List Entry → Halt → Type 0
HasHalted o first lane actions names answered lines history halt = HasStopped o first lane names answered lines history halt ⊎ HasSpent o first lane actions names answered lines history halt

-- the lane was answered all calls. The list is what is pending
pub record HasFinished (o : Opening) (first : View) (lane : Lane Solo) (actions : PendingActions) (names : Names) (calls : List (List ScriptLine)) (history : List Entry) (halt : Halt) : Type 0 where
  pub header : Header
  pub pool : PoolView
  pub begins : Begins o header pool first
  pub blocks : BlockLists
  pub answered : HasAnswered o first lane blocks actions names calls history
  pub is_open : halt.is_open ≡ None
  pub ends : halt.end ≡ end.Ended

-- or it came to its end in one of them
pub record HasHaltedIn (o : Opening) (first : View) (lane : Lane Solo) (actions : PendingActions) (names : Names) (calls : List (List ScriptLine)) (history : List Entry) (halt : Halt) : Type 0 where
  pub answered : List (List ScriptLine)
  pub lines : List ScriptLine
  pub behind : List (List ScriptLine)
  pub are : calls ≡ answered ++ lines ∷ behind
  pub halted : HasHalted o first lane actions names answered lines history halt

-- so the run of these calls came to its end
abbrev pub HasRun : Opening → View → Lane Solo → PendingActions → Names → List (List ScriptLine) → List Entry → Halt → Type 0
HasRun o first lane actions names calls history halt = HasFinished o first lane actions names calls history halt ⊎ HasHaltedIn o first lane actions names calls history halt

-- ---- behind its calls

-- the lane gave up what was pending still at the view: no slot of its log is being written, and no call more was made
pub record HasGivenUp (lane : Lane Solo) (v : View) : Type 0 where
  pub view : View
  pub made : IsFinishMade v view
  pub walks : IsWalked v view 0
  pub same : IsSameLane v view
  pub seen : Sees lane.memory view
  pub rests : Rests view
  pub entries : view.entries ≡ v.entries
  pub number : view.number ≡ v.number
  pub phase : view.log ≡ v.log

-- or it stopped on the way
pub record HasStoppedGivingUp (lane : Lane Solo) (v : View) : Type 0 where
  pub view : View
  pub stops : IsFrontOf finishes v view
  pub walks : IsWalked v view 0
  pub same : IsSameLane v view
  pub seen : Sees lane.memory view
  pub rests : Rests view
  pub entries : view.entries ≡ v.entries
  pub number : view.number ≡ v.number
  pub phase : view.log ≡ v.log
  pub at_stop : IsAtStop view

-- the calls were made up to the lane's stop in one of them
pub record HasClosedStopped (o : Opening) (first : View) (lane : Lane Solo) (names : Names) (calls : List (List ScriptLine)) (history : List Entry) (halt : Halt) : Type 0 where
  pub answered : List (List ScriptLine)
  pub lines : List ScriptLine
  pub behind : List (List ScriptLine)
  pub are : calls ≡ answered ++ lines ∷ behind
  pub stopped : HasStopped o first lane names answered lines history halt

-- all were answered, or the next one could not begin, and the lane is here then
pub record HasAnsweredUpTo (o : Opening) (first : View) (names : Names) (calls : List (List ScriptLine)) (history : List Entry) (ended : LaneEnd) (v : View) : Type 0 where
  pub answered : List (List ScriptLine)
  pub behind : List (List ScriptLine)
  pub are : calls ≡ answered ++ behind
  pub before : View
  pub called : HasCalled o first names answered history before
  pub fresh : IsFresh v
  pub free : IsFree before v
  pub comes : ((ended ≡ end.Ended) × (behind ≡ []) × (v ≡ before)) ⊎ ((line : ℕ) × (ended ≡ end.Spent line) × IsSpentAt behind line before v)

-- and it gave up what was pending still, or stopped on the way
pub record HasClosedBehind (o : Opening) (first : View) (lane : Lane Solo) (names : Names) (calls : List (List ScriptLine)) (history : List Entry) (halt : Halt) : Type 0 where
  pub view : View
  pub ended : LaneEnd
  pub up_to : HasAnsweredUpTo o first names calls history ended view
  pub is_open : halt.is_open ≡ None
  pub closes : (HasGivenUp lane view × (halt.end ≡ ended)) ⊎ ((stopped : HasStoppedGivingUp lane view) × (halt.end ≡ end.Stopped (stopped.view.calls % 2 ^ 64)))

-- so the run came to its end, and nothing is pending
abbrev pub HasClosed : Opening → View → Lane Solo → Names → List (List ScriptLine) → List Entry → Halt → Type 0
HasClosed o first lane names calls history halt = HasClosedStopped o first lane names calls history halt ⊎ HasClosedBehind o first lane names calls history halt
