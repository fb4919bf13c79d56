-- How far a call of a run has come: for the crate's own functions.
use Rattle.std.specs.Prelude.{◌≡◌, ◌⊎◌, ℕ, ◌+◌, ◌≤◌, false, List, [], ◌∷◌, ◌++◌, map, slice_index, take, Option, None, Some, Result, Ok, Err, alloc_error, ⊤}
use Rattle.solo_crash.specs.Alone.{Begins, raises, standing}
use Rattle.solo_crash.specs.Leading.{Leads}
use Rattle.solo_crash.specs.OpenCall.{IsUnderBlock}
use Rattle.solo_crash.specs.Pending.{pending_before, pending_in, told_of as model_told}
use Rattle.solo_epoch.specs.Reserving.{RestsWithReserved}
use Rattle.pm_header.specs.declared.header.Header.{Header}
use Rattle.pm_image.specs.Logs.{generation_word}
use Rattle.solo_made.specs.Made.{BlockLists}
use Rattle.solo_memory.specs.Solo.{Sees, Solo}
use Rattle.solo_model.specs.Names.{is_refusal}
use Rattle.solo_model.specs.Shown.{answer_of}
use Rattle.pm_objects.specs.declared.calls.Operation.TheVariants as operation
use Rattle.pm_objects.specs.declared.history.Reply.{Reply}
use Rattle.pm_objects.specs.declared.history.TxErr.{TxErr}
use Rattle.pm_objects.specs.declared.history.TxErr.TheVariants as error
use Rattle.pm_objects.specs.declared.history.Value.{Value}
use Rattle.pm_objects.specs.declared.history.Value.TheVariants.{Refused}
use Rattle.pm_objects.specs.declared.ids.Oid.{Oid}
use Rattle.pm_objects.specs.declared.pool.PoolView.{PoolView}
use Rattle.pm_objects.specs.declared.refusal.Refusal.{Refusal}
use Rattle.pm_objects.specs.declared.refusal.Refusal.TheVariants as refusal
use Rattle.solo_script.specs.declared.script.ScriptLine.{ScriptLine}
use Rattle.solo_script.specs.declared.script.ScriptOp.{ScriptOp}
use Rattle.solo_blocks.specs.NewRuns.{IsThere}
use Rattle.solo_lock.specs.Finding.{FindsObjects}
use Rattle.solo_lock.specs.Leading.{DrawEnded}
use Rattle.solo_lock.specs.Resting.{IsAtRest}
use Rattle.pm_layout.specs.declared.shape.Shape.{Shape}
use Rattle.solo_transaction.specs.AtWork.{AreForPool, IsAtWorkWith, IsNotMaking}
use Rattle.solo_transaction.specs.Resting.{StandsAtRest}
use Rattle.solo_transaction.specs.Published.{HasDrawn}
use Rattle.solo_tx.specs.Ending.{IsAfterCall}
use Rattle.solo_tx.specs.Generations.{IsOfOpening}
use Rattle.solo_tx.specs.Learning.{Looks}
use Rattle.solo_tx.specs.Ranges.{adds_range}
use Rattle.solo_tx.specs.Stages.{is_work}
use Rattle.solo_undo.specs.Working.{IsWorking}
use Rattle.solo_view.specs.Counts.{IsAtStop, stores_among}
use Rattle.solo_view.specs.Constants.{IsSameLane}
use Rattle.solo_view.specs.Log.{no_log}
use Rattle.solo_view.specs.Log.{Phase}
use Rattle.solo_view.specs.Log.Phase.{Applying, Clearing, Drawn, Idle, Retiring, Sealing}
use Rattle.solo_view.specs.Steps.{Step}
use Rattle.solo_view.specs.View.{Told, View}
use Rattle.solo_view.specs.Views.{after_all}
use Rattle.solo_world.specs.Opening.{Opening}
use Rattle.solo_world.specs.Records.{generation_of}
use Rattle.solo_world.specs.Sequences.{Ready}
use Rattle.solo_world.specs.declared.lane.Lane.{Lane}
use Rattle.solo_world.specs.declared.lane.Span.{Span}
use Rattle.solo_exec.specs.Bounds.{IsWalked, log_due, most_stores, recorded_count, stores_of_call, stores_of_lines}
use Rattle.solo_exec.specs.Calls.{numbers_of, operation_of, stands_alone}
use Rattle.solo_exec.specs.Course.{AreMade, IsCallMade, IsFree, IsOutsideMade, IsStoppedInCall, IsUsedUp, LinesMade, spans_of}
use Rattle.solo_exec.specs.Links.{HasPassed, IsLink}
use Rattle.solo_exec.specs.Quiet.{IsQuiet}
use Rattle.solo_exec.specs.Replies.{AreToldDone, HasEnded, IsOutsideReply, IsRefusedAt, Values, numbered, values_told}
use Rattle.solo_exec.specs.Torn.{words_after}
use Rattle.solo_exec.specs.declared.calls.Names.{Names}
use Rattle.solo_exec.specs.declared.ending.CallEnd.{CallEnd}
use Rattle.solo_exec.specs.declared.ending.CallEnd.TheVariants as call_end
use Rattle.solo_exec.specs.declared.lines.NotDone.{NotDone}
use Rattle.solo_exec.specs.declared.lines.NotDone.TheVariants.{GivenUp, Stopped, Spent, Memory}
use Rattle.solo_exec.specs.declared.ending.CallAnswer.{CallAnswer}
use Rattle.solo_exec.specs.declared.ending.CallAnswer.TheVariants as answer
use Rattle.solo_pending.specs.AllPending.{IsPendingAs}
use Rattle.solo_pending.specs.declared.pending.PendingActions.{PendingActions}
use Rattle.std.specs.Prelude.{All}

-- The lane, in a pool of this shape, makes no object now, and what it has reserved stands. Wherever it began, it rests with that: as its next call begins it is between
-- two calls
pub record KeepsReserved (o : Opening) (shape : Shape) (v : View) : Type 0 where
  pub quiet : IsNotMaking v
  pub stands : StandsAtRest v
  pub rests : (header : Header) (pool : PoolView) → Begins o header pool v → RestsWithReserved o header pool v [] v shape

-- the lane rests before a call, where it begins, with what it has reserved, and with lists for its pool: o is the pool as it stands
pub record IsStart (o : Opening) (lane : Lane Solo) (blocks : BlockLists) (actions : PendingActions) (v : View) : Type 0 where
  pub rests : IsAtRest Sees lane v
  pub header : Header
  pub pool : PoolView
  pub begins : Begins o header pool v
  pub keeps : KeepsReserved o lane.shape v
  pub pages : AreForPool blocks v
  pub pending : IsPendingAs actions (pending_before v)

-- from where the lane began the call steps led to a view at which it is at work, with these lists of what it made and freed, and with these lines done, which gave
-- these values: in the blocks that it found the words are what the lines make of the pool's
pub record IsAtLine (o : Opening) (first : View) (lane : Lane Solo) (blocks : BlockLists) (actions : PendingActions) (names : Names) (front : List ScriptLine) (values : Values) : Type 0 where
  pub header : Header
  pub pool : PoolView
  pub begins : Begins o header pool first
  pub view : View
  pub steps : List Step
  pub leads : Leads first steps view
  pub of_lane : view.lane ≡ 0
  pub works : IsAtWorkWith o Sees lane blocks view
  pub level : lane.level ≡ 1
  -- the first of them is none that stands alone
  pub opens : (line : ScriptLine) × (rest : List ScriptLine) × (front ≡ line ∷ rest) × (stands_alone line.operation ≡ false)
  pub told : AreToldDone names front view.call
  pub gave : values ≡ values_told front view.call
  pub entries : view.entries ≡ first.entries
  pub generation : generation_of view ≡ generation_word o.words 0
  pub words : (i : ℕ) → IsUnderBlock view i → slice_index view.words i ≡ words_after names front (slice_index o.words) i
  pub unraised : raises steps ≡ 0
  pub pending : IsPendingAs actions (pending_in view)
  pub made : LinesMade names front first view
  pub few : stores_among steps + recorded_count view + log_due view ≤ stores_of_lines names front

-- so it is wherever it began, with some lines done that gave these values
abbrev pub IsLaneWith : Lane Solo → BlockLists → PendingActions → Names → Values → Type 0
IsLaneWith lane blocks actions names values = (o : Opening) × (first : View) × (front : List ScriptLine) × IsAtLine o first lane blocks actions names front values

abbrev pub IsLaneAtLine : Lane Solo → BlockLists → PendingActions → Names → Type 0
IsLaneAtLine lane blocks actions names = (values : Values) × IsLaneWith lane blocks actions names values

-- its call is over, came to these operations with their replies, and has drawn a number; its locks are held still
pub record IsOver (o : Opening) (first : View) (lane : Lane Solo) (blocks : BlockLists) (actions : PendingActions) (names : Names) (lines : List ScriptLine) (told : List Told) (error : TxErr) : Type 0 where
  pub view : View
  pub header : Header
  pub pool : PoolView
  pub begins : Begins o header pool first
  pub passed : HasPassed o first view (stores_of_call names lines)
  pub behind : IsAfterCall Sees lane view
  pub unlocked : view.zone_locks ≡ []
  -- what is reserved and pending stands in its words, in blocks that the lane reserved
  pub stands : StandsAtRest view
  pub pages : AreForPool blocks view
  pub number : view.number ≡ Some lane.last
  pub entries : view.entries ≡ first.entries ++ numbered lane.last told ∷ []
  pub level : lane.level ≡ 1
  pub left : is_work lane.stage ≡ false
  pub fails : lane.error ≡ error
  pub pending : IsPendingAs actions (pending_before view)
  pub made : AreMade names lines error first view

-- the call has drawn no number
pub record IsUndrawn (first v : View) : Type 0 where
  pub number : v.number ≡ None
  pub entries : v.entries ≡ first.entries

-- a call drew its number, behind so many stores of its lane's generation, and its deciding store is to come, is made, or is drained; or its log is
-- over
abbrev pub IsFlyingBy : ℕ → Phase → Type 0
IsFlyingBy raised Drawn = raised ≡ 0
IsFlyingBy raised Sealing = raised ≡ 0
IsFlyingBy raised (Applying applied) = ⊤
IsFlyingBy raised Clearing = raised ≡ 1
IsFlyingBy raised Retiring = raised ≡ 1
IsFlyingBy raised Idle = raised ≡ 1
IsFlyingBy raised phase = ⊥

-- the call of these lines has drawn its number, and is not over
pub record IsInFlight (first : View) (names : Names) (lines : List ScriptLine) (values : Values) (v : View) : Type 0 where
  pub number : ℕ
  pub drawn : v.number ≡ Some number
  pub told : List Told
  pub entries : v.entries ≡ first.entries ++ numbered number told ∷ []
  pub done : AreToldDone names lines told
  pub gave : values ≡ values_told lines told
  pub begun : is_refusal (answer_of (map model_told told)) ≡ false

-- steps from a lane at work that leave it quiet, if it was
pub record IsCalmBehind (first w : View) : Type 0 where
  pub view : View
  pub steps : List Step
  pub leads : Leads first steps view
  pub working : IsWorking view
  pub calm : IsQuiet view → IsQuiet w

-- some of the steps with which a range is recorded, behind the first of these lines and some looks
pub record IsInAdd (o : Opening) (first : View) (names : Names) (lines : List ScriptLine) (w : View) : Type 0 where
  pub front : List ScriptLine
  pub rest : List ScriptLine
  pub is_all : lines ≡ front ++ rest
  pub before : View
  pub steps : List Step
  pub leads : Leads first steps before
  pub objects : FindsObjects before
  pub there : All (IsThere before) before.locks
  pub words : (i : ℕ) → IsUnderBlock before i → slice_index before.words i ≡ words_after names front (slice_index o.words) i
  pub loads : ℕ
  pub view : View
  pub looks : Looks loads before view
  pub working : IsWorking view
  pub spans : List Span
  pub spans_are : spans ≡ spans_of view
  pub id : Oid
  pub off : ℕ
  pub len : ℕ
  pub ready : Ready view (adds_range spans id off len view)
  pub draws : DrawEnded view (adds_range spans id off len view)
  pub made : ℕ
  pub is : w ≡ after_all view (take made (adds_range spans id off len view))

-- where it writes a slot, it records a range of these lines
abbrev pub IsUntorn : Opening → View → Names → List ScriptLine → View → Type 0
IsUntorn o first names lines w = IsCalmBehind first w ⊎ IsInAdd o first names lines w

-- so it has, behind so many stores of its lane's generation, at a phase that follows from them
pub record IsFlying (first : View) (names : Names) (lines : List ScriptLine) (values : Values) (raised : ℕ) (v : View) : Type 0 where
  pub flight : IsInFlight first names lines values v
  pub flies : IsFlyingBy raised v.log.phase

-- The lane came here by steps that it makes at work: its call has drawn no number, or came to all of its lines. Where it writes a slot, it records a range of these
-- lines.
pub record IsCutAtWork (o : Opening) (first : View) (names : Names) (lines : List ScriptLine) (values : Values) (w : View) : Type 0 where
  pub steps : List Step
  pub leads : Leads first steps w
  pub came : IsUndrawn first w ⊎ IsFlying first names lines values (raises steps) w
  pub opening : IsOfOpening o w
  pub untorn : IsUntorn o first names lines w

-- its call drew its number with a log that has what it made and freed, where the generation was as the call began, and publishes the log
pub record IsDrawnAlone (o : Opening) (header : Header) (pool : PoolView) (n : ℕ) (w : View) : Type 0 where
  pub has : HasDrawn o header pool n w
  pub generation : generation_of has.drawn ≡ generation_word o.words 0

-- so it is wherever the lane began, and the call came to all of its lines
pub record IsCutPublishing (o : Opening) (first : View) (names : Names) (lines : List ScriptLine) (values : Values) (w : View) : Type 0 where
  pub flight : IsInFlight first names lines values w
  pub publishing : (header : Header) (pool : PoolView) → Begins o header pool first → IsDrawnAlone o header pool flight.number w

-- it came to its stop before its call of these lines was over
pub record IsCut (o : Opening) (first : View) (lane : Lane Solo) (names : Names) (lines : List ScriptLine) (values : Values) : Type 0 where
  pub view : View
  pub same : IsSameLane first view
  pub bound : IsWalked first view (stores_of_call names lines)
  pub seen : Sees lane.memory view
  pub drawn : lane.drawn ≡ view.number
  pub way : IsCutAtWork o first names lines values view ⊎ IsCutPublishing o first names lines values view
  pub at_stop : IsAtStop view
  pub stops : IsStoppedInCall names lines first view

-- it did not begin its call. The list is what is pending still
pub record IsUnbegun (first : View) (lane : Lane Solo) (actions : PendingActions) : Type 0 where
  pub view : View
  pub free : IsFree first view
  pub used_up : IsUsedUp first
  pub rests : IsAtRest Sees lane view
  pub pending : IsPendingAs actions (pending_before first)

-- its call was given up at this line
pub record IsGivenUpAt (o : Opening) (first : View) (lane : Lane Solo) (blocks : BlockLists) (actions : PendingActions) (names : Names) (lines : List ScriptLine) (values : Values) (line : ℕ) (r : Refusal) : Type 0 where
  pub told : List Told
  pub at : IsRefusedAt names lines line r values told
  pub over : IsOver o first lane blocks actions names lines told (error.Refused r)

-- why a line is not done, by what it answers
abbrev pub not_done : ℕ → Refusal → NotDone
not_done line refusal.Stopped = Stopped
not_done line refusal.Spent = Spent line
not_done line r = GivenUp line r

-- the reason why a line was refused, which aborts nothing, is added to what the lines gave; the lane's stop alone ends them
abbrev pub IsRefusalGiven : {T : Type 0} → ℕ → Refusal → Values → Values → Result T NotDone → Type 0
IsRefusalGiven line refusal.Stopped old new result = (new ≡ old) × (result ≡ Err Stopped)
IsRefusalGiven line r old new (Ok done) = new ≡ old ++ (line, Refused r) ∷ []
IsRefusalGiven line r old new (Err why) = why ≡ Memory alloc_error

-- the call was not committed, for this reason
abbrev pub IsNotDone : Opening → View → Lane Solo → BlockLists → PendingActions → Names → List ScriptLine → Values → NotDone → Type 0
IsNotDone o first lane blocks actions names lines values (GivenUp line r) = IsGivenUpAt o first lane blocks actions names lines values line r
IsNotDone o first lane blocks actions names lines values Stopped = IsCut o first lane names lines values
IsNotDone o first lane blocks actions names lines values (Spent line) = IsUnbegun first lane actions × (slice_index (numbers_of lines) 0 ≡ line)
IsNotDone o first lane blocks actions names lines values (Memory e) = ⊤

-- all of its lines were done
pub record IsCommitted (o : Opening) (first : View) (lane : Lane Solo) (blocks : BlockLists) (actions : PendingActions) (names : Names) (lines : List ScriptLine) (values : Values) : Type 0 where
  pub told : List Told
  pub done : AreToldDone names lines told
  pub gave : values ≡ values_told lines told
  pub over : IsOver o first lane blocks actions names lines told error.None

-- the call was committed, or was not
abbrev pub CameTo : {T : Type 0} → Opening → View → Lane Solo → BlockLists → PendingActions → Names → List ScriptLine → Values → Result T NotDone → Type 0
CameTo o first lane blocks actions names lines values (Ok answer) = IsCommitted o first lane blocks actions names lines values
CameTo o first lane blocks actions names lines values (Err why) = IsNotDone o first lane blocks actions names lines values why

-- the call was answered, a link of its run, and the lane rests again
pub record IsAnswered (o : Opening) (first : View) (lane : Lane Solo) (blocks : BlockLists) (actions : PendingActions) (names : Names) (lines : List ScriptLine) (number : ℕ) (a : CallAnswer) (reply : Reply) : Type 0 where
  pub view : View
  pub link : IsLink o first view (stores_of_call names lines)
  pub rests : IsAtRest Sees lane view
  pub idle : view.log ≡ no_log Idle
  pub keeps : KeepsReserved (standing o view) lane.shape view
  pub pages : AreForPool blocks view
  pub told : List Told
  pub entries : view.entries ≡ first.entries ++ numbered number told ∷ []
  pub so : HasEnded names lines a reply told
  pub pending : IsPendingAs actions (pending_before view)
  pub made : IsCallMade names lines a first view

-- the lane stopped in the call
pub record IsHalted (o : Opening) (first : View) (lane : Lane Solo) (names : Names) (lines : List ScriptLine) (number : Option ℕ) (reply : Reply) : Type 0 where
  pub cut : IsCut o first lane names lines reply.values
  pub unanswered : reply.at ≡ 0
  pub numbered : number ≡ cut.view.number

-- what the lines of a call gave that ended so
abbrev pub values_given : CallEnd → Values
values_given (call_end.Answered number a reply) = reply.values
values_given (call_end.Halted number reply) = reply.values
values_given (call_end.Unbegun line) = []

-- how a call of these lines ended
abbrev pub HasCome : Opening → View → Lane Solo → BlockLists → PendingActions → Names → List ScriptLine → CallEnd → Type 0
HasCome o first lane blocks actions names lines (call_end.Answered number a reply) = IsAnswered o first lane blocks actions names lines number a reply
HasCome o first lane blocks actions names lines (call_end.Halted number reply) = IsHalted o first lane names lines number reply
HasCome o first lane blocks actions names lines (call_end.Unbegun line) = IsUnbegun first lane actions × (slice_index (numbers_of lines) 0 ≡ line)

-- a call outside of a transaction was answered, and gave this: the lane rests again, and its entry is the last
pub record IsActed (o : Opening) (first : View) (lane : Lane Solo) (blocks : BlockLists) (actions : PendingActions) (names : Names) (op : ScriptOp) (r : Option Refusal) (gave : Option ℕ) : Type 0 where
  pub view : View
  pub link : IsLink o first view (most_stores names op + 1)
  pub rests : IsAtRest Sees lane view
  pub idle : view.log ≡ no_log Idle
  pub keeps : KeepsReserved (standing o view) lane.shape view
  pub pages : AreForPool blocks view
  pub answer : Option Value
  pub replies : IsOutsideReply (operation_of names op) r answer gave
  pub entries : view.entries ≡ first.entries ++ numbered lane.last (record { operation = operation_of names op; reply = answer } ∷ []) ∷ []
  pub pending : IsPendingAs actions (pending_before view)
  pub made : IsOutsideMade names op r first view

-- a call outside of a transaction was answered, or refused; or the lane came to its stop in it, or could not begin it
abbrev pub ActedOutside : Opening → View → Lane Solo → BlockLists → PendingActions → Names → ScriptOp → Result (Option ℕ) Refusal → Type 0
ActedOutside o first lane blocks actions names op (Ok gave) = IsActed o first lane blocks actions names op None gave
ActedOutside o first lane blocks actions names op (Err refusal.Stopped) = (said : ScriptLine) → said.operation ≡ op → IsCut o first lane names (said ∷ []) []
ActedOutside o first lane blocks actions names op (Err refusal.Spent) = IsUnbegun first lane actions
ActedOutside o first lane blocks actions names op (Err r) = IsActed o first lane blocks actions names op (Some r) None
