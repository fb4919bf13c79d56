-- The memory calls that the lines of a script make, where one lane is alone, and where it stops: docs/FORMAT.md, "Sequences".
use Rattle.std.specs.Prelude.{Any, ◌≡◌, ◌⊎◌, ℕ, ◌≤◌, true, List, [], ◌∷◌, ◌++◌, length, map, Option, None, Some, option_map, slice_index, ⊤}
use Rattle.solo_alloc.specs.NewObjects.{GivesNoObject, HasNewObject}
use Rattle.solo_blocks.specs.declared.making.NoBlock.TheVariants as no_block
use Rattle.solo_crash.specs.CallBlocks.{block_of, blocks_behind, blocks_in, no_blocks, reserved_object}
use Rattle.solo_crash.specs.Operations.{IsMade}
use Rattle.solo_epoch.specs.Allocating.{object_in_block, with_object_told}
use Rattle.solo_epoch.specs.Reserving.{with_object_reserved}
use Rattle.pm_image.specs.declared.block.Block.{Block}
use Rattle.solo_made.specs.Entries.{entries_of}
use Rattle.solo_made.specs.Made.{BlockLists, ListsBlocks}
use Rattle.solo_memory.specs.declared.lane_mem.Stopped.{Stopped as HasStopped}
use Rattle.solo_reclaim.specs.Reclaims.{HasLeft, Reclaims}
use Rattle.solo_memory.specs.Runs.{Stops}
use Rattle.pm_objects.specs.declared.history.Value.TheVariants.{Refused}
use Rattle.pm_objects.specs.declared.history.Entry.{Entry}
use Rattle.pm_objects.specs.declared.history.TxErr.{TxErr}
use Rattle.pm_objects.specs.declared.history.TxErr.TheVariants as error
use Rattle.pm_objects.specs.declared.ids.Oid.{Oid}
use Rattle.pm_objects.specs.declared.refusal.Refusal.{Refusal}
use Rattle.pm_objects.specs.declared.refusal.Refusal.TheVariants as refusal
use Rattle.solo_script.specs.declared.script.ScriptId.{ScriptId}
use Rattle.solo_script.specs.declared.script.ScriptLine.{ScriptLine}
use Rattle.solo_script.specs.declared.script.ScriptOp.{ScriptOp}
use Rattle.solo_script.specs.declared.script.ScriptOp.TheVariants.{Begin, Add, Write, Read, Alloc, Free, Reserve, WriteReserved, DeferFree, Set, Publish, Cancel, Commit}
use Rattle.solo_script.specs.declared.script.ScriptWant.{ScriptWant}
use Rattle.pm_text.specs.declared.report.LaneEnd.{LaneEnd}
use Rattle.pm_text.specs.declared.report.LaneEnd.TheVariants as end
use Rattle.solo_lock.specs.Lacking.{LacksObject}
use Rattle.solo_lock.specs.Leading.{IsLed}
use Rattle.solo_tx.specs.Ranges.{adds_range, writes_range}
use Rattle.solo_tx.specs.Sequences.{commits, gives_up}
use Rattle.solo_view.specs.Steps.Step.{Draw, Tell}
use Rattle.solo_view.specs.View.{View}
use Rattle.solo_view.specs.Views.{after, after_all}
use Rattle.solo_world.specs.Lanes.{span_of}
use Rattle.solo_world.specs.Lawful.{generation_limit}
use Rattle.solo_world.specs.Records.{generation_of}
use Rattle.solo_world.specs.Sequences.{Sequence, by_view}
use Rattle.solo_world.specs.declared.lane.Span.{Span}
use Rattle.solo_exec.specs.Calls.{id_of, numbers_of, operation_of, stands_alone, want_of}
use Rattle.solo_exec.specs.Histories.{settled_fate}
use Rattle.solo_exec.specs.declared.calls.Names.{Names}
use Rattle.solo_crash.specs.OnActions.{defer_refusal, set_refusal}
use Rattle.solo_crash.specs.Reserving.{IsReserveReason, put_refusal}
use Rattle.solo_crash.specs.Pending.{pending_before, pending_in, published_in, sets_before}
use Rattle.solo_action.specs.Canceling.{cancels_outside, finishes}
use Rattle.solo_action.specs.Holding.{Overruns}
use Rattle.solo_model.specs.Actions.{Pending, none_pending, only_sets, pending_count, wants_pending}
use Rattle.pm_objects.specs.declared.calls.Operation.{Operation}
use Rattle.pm_objects.specs.declared.calls.Operation.TheVariants as operation
use Rattle.solo_pending.specs.Pending.{entry_of}
use Rattle.pm_record.specs.declared.redo.Redo.{Redo}
use Rattle.solo_transaction.specs.Allocating.{CameToRefuse}
use Rattle.solo_transaction.specs.Canceling.{cancels_pending}
use Rattle.solo_tx.specs.Actions.{cancels}
use Rattle.solo_transaction.specs.Filling.{puts_range}
use Rattle.solo_transaction.specs.Published.{logs_call}
use Rattle.solo_exec.specs.declared.ending.CallAnswer.{CallAnswer}
use Rattle.solo_exec.specs.declared.ending.CallAnswer.TheVariants as answer

-- steps that are no counted calls, and draw no number, lead from the one view to the other
pub record IsFree (v w : View) : Type 0 where
  pub led : IsLed v w
  pub undrawn : w.entries ≡ v.entries

-- the words that the call's records have
abbrev pub spans_of : View → List Span
spans_of v = map span_of v.log.records

-- the entries of what the call published
abbrev pub published_entries : View → List Redo
published_entries v = map entry_of (published_in v)

-- the memory calls of an add of an object that the call found, of a write, and of a write into what is reserved
abbrev pub add_calls : Names → ScriptId → ℕ → ℕ → Sequence
add_calls names id off len = by_view (λ v. adds_range (spans_of v) (id_of names id) off len)

abbrev pub write_calls : Names → ScriptId → ℕ → List ℕ → Sequence
write_calls names id off bytes = writes_range (id_of names id) off bytes

abbrev pub put_calls : Names → ScriptId → ℕ → List ℕ → Sequence
put_calls names id off bytes = puts_range (id_of names id) off bytes

-- those of a commit by this number, where the call made and freed what these lists have: it performs the entries of what it published, and then those of the blocks
abbrev pub commit_calls : BlockLists → ℕ → Sequence
commit_calls blocks n = by_view (λ v. commits (spans_of v) (published_entries v ++ entries_of v.lanes blocks) n)

-- those of a publish of all that was pending as the call began, by this number, where that is to make and free what these lists have
abbrev pub publish_calls : BlockLists → ℕ → Sequence
publish_calls blocks n = by_view (λ v. logs_call operation.Publish (map entry_of (sets_before v) ++ entries_of v.lanes blocks) n)

-- the memory calls of a line that is refused so: what the transaction did is taken back, and the call draws this number
abbrev pub refused_calls : Names → ScriptOp → Refusal → ℕ → Sequence
refused_calls names op r n = by_view (λ v. gives_up (spans_of v) (operation_of names op) (Some (Refused r)) n)

-- behind free steps exactly these were made
pub record IsMadeBy (steps : Sequence) (v w : View) : Type 0 where
  pub start : View
  pub free : IsFree v start
  pub is : w ≡ after_all start (steps start)

-- an object was made: its block was reserved as a free one is found, then it was filled, and told
pub record IsObjectMade (size kind : ℕ) (v w : View) : Type 0 where
  pub block : Block
  pub view : View
  pub made : HasNewObject (λ u. u ≡ view) v size kind block
  pub told : w ≡ with_object_told view (object_in_block block size kind)

-- an object was reserved: it was made so, and told as reserved
pub record IsObjectReserved (size kind : ℕ) (v w : View) : Type 0 where
  pub block : Block
  pub view : View
  pub made : HasNewObject (λ u. u ≡ view) v size kind block
  pub told : w ≡ with_object_reserved view (object_in_block block size kind)

-- a reservation was refused so: where there is `NoSpace` no block was found for it; and that was told
pub record IsReserveRefused (size kind : ℕ) (r : Refusal) (v w : View) : Type 0 where
  pub view : View
  pub came : CameToRefuse v size r view
  pub told : w ≡ after view (Tell (operation.Reserve size kind) (Some (Refused r)))

-- the call was committed, with the entries of all that it made and freed
pub record IsCommitMade (v w : View) : Type 0 where
  pub blocks : BlockLists
  pub lists : ListsBlocks blocks (blocks_in v)
  pub number : ℕ
  pub made : IsMadeBy (commit_calls blocks number) v w

-- an operation on what is pending was told, done or refused so, and nothing else was done
abbrev pub IsToldSo : Operation → Option Refusal → View → View → Type 0
IsToldSo op r v w = w ≡ after v (Tell op (option_map Refused r))

-- a write into what is reserved was refused so, for what is pending
abbrev pub IsPutRefused : Operation → Option Refusal → View → View → Type 0
IsPutRefused op None v w = ⊥
IsPutRefused op (Some r) v w = IsToldSo op (Some r) v w

-- the line was done: a begin, a read, a free and a publish make no counted calls, nor does an add of an object that the call made; a free that is deferred and a set are
-- told alone, with the plain model's refusal if there is one, and so are a reservation and a put that are refused
abbrev pub IsLineMade : Names → ScriptOp → View → View → Type 0
IsLineMade names (Begin wants) v w = IsFree v w
IsLineMade names (Add id off len) v w = IsMadeBy (add_calls names id off len) v w ⊎ (IsMade v (id_of names id) × IsFree v w)
IsLineMade names (Write id off bytes) v w = IsMadeBy (write_calls names id off bytes) v w
IsLineMade names (Read id off len) v w = IsFree v w
IsLineMade names (Alloc letter size kind) v w = IsObjectMade size kind v w
IsLineMade names (Free id) v w = IsFree v w
IsLineMade names (Reserve letter size kind) v w = IsObjectReserved size kind v w ⊎ ((r : Refusal) × IsReserveReason (pending_in v) size r × IsReserveRefused size kind r v w)
IsLineMade names (WriteReserved id off bytes) v w =
    IsMadeBy (put_calls names id off bytes) v w ⊎ IsPutRefused (operation_of names (WriteReserved id off bytes)) (put_refusal v.pool (pending_in v) (id_of names id) off (length bytes)) v w
IsLineMade names (DeferFree id) v w = IsToldSo (operation_of names (DeferFree id)) (defer_refusal (pending_in v)) v w
IsLineMade names (Set id off value) v w = IsToldSo (operation_of names (Set id off value)) (set_refusal off (pending_in v)) v w
IsLineMade names Publish v w = IsFree v w
IsLineMade names Cancel v w = IsMadeBy cancels_pending v w
IsLineMade names Commit v w = IsCommitMade v w

-- some lines were done, one after another
unfoldable pub LinesMade : Names → List ScriptLine → View → View → Type 0
LinesMade names [] v w = w ≡ v
LinesMade names (line ∷ lines) v w = (m : View) × IsLineMade names line.operation v m × LinesMade names lines m w

-- how the lane came to where it gives up the call for an operation that is refused so: of an `alloc`, that it found no block where there is `NoSpace`
abbrev pub CameToGiveUp : Operation → Refusal → View → View → Type 0
CameToGiveUp (operation.Alloc size kind) r v w = CameToRefuse v size r w
CameToGiveUp op r v w = ⊤

-- the line was refused so, and its call given up
pub record IsGivenUpMade (names : Names) (op : ScriptOp) (r : Refusal) (v w : View) : Type 0 where
  pub number : ℕ
  pub made : IsMadeBy (refused_calls names op r number) v w
  pub came : CameToGiveUp (operation_of names op) r v made.start

-- why a begin of a lane that is alone may be refused: it wants too many locks, or something for which the pool's words have no object. No lock is
-- another lane's
abbrev pub IsBeginRefusal : Names → List ScriptWant → Refusal → View → Type 0
IsBeginRefusal names wants refusal.LocksFull v = ⊤
IsBeginRefusal names wants refusal.NoObject v = Any (LacksObject v) (map (want_of names) wants)
IsBeginRefusal names wants r v = ⊥

-- the line was refused so, and its call given up; a begin for this cause
abbrev pub IsRefusalMade : Names → ScriptOp → Refusal → View → View → Type 0
IsRefusalMade names (Begin wants) r v w = IsGivenUpMade names (Begin wants) r v w × IsBeginRefusal names wants r v
IsRefusalMade names op r v w = IsGivenUpMade names op r v w

-- lines were done, and then one was refused so; those behind it are passed over
pub record IsRefusedIn (names : Names) (lines : List ScriptLine) (r : Refusal) (v w : View) : Type 0 where
  pub front : List ScriptLine
  pub said : ScriptLine
  pub rest : List ScriptLine
  pub is : lines ≡ front ++ said ∷ rest
  pub middle : View
  pub made : LinesMade names front v middle
  pub refused : IsRefusalMade names said.operation r middle w

-- the lines of a call that ended with this error: all were done where there is none, or up to one that was refused so
abbrev pub AreMade : Names → List ScriptLine → TxErr → View → View → Type 0
AreMade names lines error.None v w = LinesMade names lines v w
AreMade names lines (error.Refused r) v w = IsRefusedIn names lines r v w
AreMade names lines e v w = ⊥

-- the blocks of all that is reserved and pending
abbrev pub blocks_reserved : Pending → List Block
blocks_reserved p = map block_of (map reserved_object p.reserved)

-- What the lane had reserved or freed was given back where no word says that it is taken, but for these blocks: each occupancy word has what the words say is taken, and
-- what is of these blocks, and nothing else
pub record IsRestGivenBack (kept : List Block) (v w : View) : Type 0 where
  pub reclaims : Reclaims v w
  pub left : HasLeft kept w

-- a transaction was answered with this error: its lines were made, its locks given back, and then its blocks, but for those of what is reserved and pending still
pub record IsTransactionMade (names : Names) (lines : List ScriptLine) (e : TxErr) (v w : View) : Type 0 where
  pub over : View
  pub made : AreMade names lines e v over
  pub unlocked : View
  pub closed : IsFree over unlocked
  pub given : IsRestGivenBack (blocks_reserved (pending_before over)) unlocked w

-- what is pending was published outside of a transaction: locks were taken, all was made persistent, the entries of the words, of the frees and of what was reserved
-- were logged and performed, and the locks given back; then the blocks that were freed, where there were any changes of blocks
pub record IsPublishMade (v w : View) : Type 0 where
  pub start : View
  pub free : IsFree v start
  pub some : 1 ≤ pending_count (pending_before v)
  pub blocks : BlockLists
  pub lists : ListsBlocks blocks (blocks_behind operation.Publish None (pending_before v) no_blocks)
  pub number : ℕ
  pub over : View
  pub is : over ≡ after_all start (publish_calls blocks number start)
  pub unlocked : View
  pub closed : IsFree over unlocked
  pub given : ((pending_before v ≡ only_sets (sets_before v)) × (w ≡ unlocked)) ⊎ IsRestGivenBack [] unlocked w

-- an object was reserved outside of a transaction, as all of a call, which drew a number
pub record IsReserveMade (size kind : ℕ) (v w : View) : Type 0 where
  pub start : View
  pub free : IsFree v start
  pub told : View
  pub reserved : IsObjectReserved size kind start told
  pub number : ℕ
  pub drawn : w ≡ after told (Draw number)

-- no block was found for it
pub record IsReserveRefusedOutside (size kind : ℕ) (r : Refusal) (v w : View) : Type 0 where
  pub start : View
  pub free : IsFree v start
  pub told : View
  pub refused : IsReserveRefused size kind r start told
  pub number : ℕ
  pub drawn : w ≡ after told (Draw number)

-- bytes were written into what is reserved
pub record IsPutMade (names : Names) (id : ScriptId) (off : ℕ) (bytes : List ℕ) (v w : View) : Type 0 where
  pub start : View
  pub free : IsFree v start
  pub number : ℕ
  pub drawn : w ≡ after (after_all start (put_calls names id off bytes start)) (Draw number)

-- what was pending was given up: all was made persistent, that was told and the number drawn, and then each block that was reserved was given back
pub record IsCancelMade (v w : View) : Type 0 where
  pub start : View
  pub free : IsFree v start
  pub number : ℕ
  pub made : w ≡ after_all start (cancels_outside number start)

-- why a publish of what is pending by a lane that is alone may be refused: by the pool's words one names no object, or one was asked for of an object that was to be
-- freed already; an object that is to be freed is the root; or an action passes the end of its object. No lock is another lane's
abbrev pub IsPublishRefusal : Pending → Refusal → View → Type 0
IsPublishRefusal p refusal.NoObject v = Any (LacksObject v) (wants_pending p) ⊎ (p.late ≡ true)
IsPublishRefusal p refusal.RootKept v = Any (λ (id : Oid). slice_index v.words 64 ≡ id.off) p.frees
IsPublishRefusal p refusal.OutOfRange v = Any (Overruns v) p.sets
IsPublishRefusal p r v = ⊥

-- why a call outside of a transaction may be refused, where this is pending: a set-value for its place or for room, a free that is deferred for room, a reservation for
-- its size, for room or for want of a block, a put for its place, and a publish for the objects that it names
abbrev pub IsOutsideRefusal : Names → ScriptOp → Pending → Refusal → View → Type 0
IsOutsideRefusal names (Set id off value) p r v = set_refusal off p ≡ Some r
IsOutsideRefusal names (DeferFree id) p r v = defer_refusal p ≡ Some r
IsOutsideRefusal names (Reserve letter size kind) p r v = IsReserveReason p size r
IsOutsideRefusal names (WriteReserved id off bytes) p r v = put_refusal v.pool p (id_of names id) off (length bytes) ≡ Some r
IsOutsideRefusal names Publish p r v = IsPublishRefusal p r v
IsOutsideRefusal names op p r v = ⊥

-- how a call outside of a transaction is refused: a reservation may have looked for a block; no counted call is made
abbrev pub IsRefusedOutside : Names → ScriptOp → Refusal → View → View → Type 0
IsRefusedOutside names (Reserve letter size kind) r v w = IsReserveRefusedOutside size kind r v w
IsRefusedOutside names op r v w = IsLed v w

-- a call outside of a transaction was done, or refused so
abbrev pub IsOutsideMade : Names → ScriptOp → Option Refusal → View → View → Type 0
IsOutsideMade names (Reserve letter size kind) None v w = IsReserveMade size kind v w
IsOutsideMade names (WriteReserved id off bytes) None v w = IsPutMade names id off bytes v w
IsOutsideMade names Publish None v w = IsPublishMade v w ⊎ (IsLed v w × (pending_before v ≡ none_pending))
IsOutsideMade names Cancel None v w = IsCancelMade v w
IsOutsideMade names op None v w = IsLed v w
IsOutsideMade names op (Some r) v w = IsRefusedOutside names op r v w × IsOutsideRefusal names op (pending_before v) r v

-- the one line of these lines
pub record IsOneLine (lines : List ScriptLine) (op : ScriptOp) : Type 0 where
  pub line : ScriptLine
  pub alone : lines ≡ line ∷ []
  pub says : line.operation ≡ op
  pub outside : stands_alone op ≡ true

-- a call was answered so
abbrev pub IsCallMade : Names → List ScriptLine → CallAnswer → View → View → Type 0
IsCallMade names lines (answer.Transaction e) v w = IsTransactionMade names lines e v w
IsCallMade names lines (answer.Outside r) v w = (op : ScriptOp) × IsOneLine lines op × IsOutsideMade names op r v w

-- calls were answered, one after another, as their entries say
unfoldable pub CallsMade : Names → List (List ScriptLine) → List Entry → View → View → Type 0
CallsMade names [] [] v w = w ≡ v
CallsMade names (call ∷ calls) (entry ∷ history) v w =
    (m : View) × (a : CallAnswer) × (entry.fate ≡ settled_fate a) × IsCallMade names call a v m × CallsMade names calls history m w
CallsMade names calls history v w = ⊥

-- some of the steps were made, the first of them, up to this view, where the lane is at its stop number and the next is a counted call
abbrev pub IsFrontOf : Sequence → View → View → Type 0
IsFrontOf steps v w = Stops (λ u. w ≡ u) v (steps v)

-- behind free steps the first of these were made, and the next is due
pub record IsStoppedBy (steps : Sequence) (v w : View) : Type 0 where
  pub start : View
  pub free : IsFree v start
  pub stops : IsFrontOf steps start w

-- so it is of a commit's
pub record IsStoppedInCommit (v w : View) : Type 0 where
  pub blocks : BlockLists
  pub lists : ListsBlocks blocks (blocks_in v)
  pub number : ℕ
  pub stopped : IsStoppedBy (commit_calls blocks number) v w

-- in the calls of the line a counted call is due; an object was being made
abbrev pub IsLineStopped : Names → ScriptOp → View → View → Type 0
IsLineStopped names (Add id off len) v w = IsStoppedBy (add_calls names id off len) v w
IsLineStopped names (Write id off bytes) v w = IsStoppedBy (write_calls names id off bytes) v w
IsLineStopped names (Alloc letter size kind) v w = (stop : HasStopped) × GivesNoObject (λ u. u ≡ w) v size kind (no_block.Stopped stop)
IsLineStopped names (Reserve letter size kind) v w = (stop : HasStopped) × GivesNoObject (λ u. u ≡ w) v size kind (no_block.Stopped stop)
IsLineStopped names (WriteReserved id off bytes) v w = IsStoppedBy (put_calls names id off bytes) v w
IsLineStopped names Cancel v w = IsStoppedBy cancels v w
IsLineStopped names Commit v w = IsStoppedInCommit v w
IsLineStopped names op v w = ⊥

-- so it is in those by which the call is given up, as the line is refused so
pub record IsStoppedGivingUp (names : Names) (op : ScriptOp) (r : Refusal) (v w : View) : Type 0 where
  pub number : ℕ
  pub stopped : IsStoppedBy (refused_calls names op r number) v w
  pub came : CameToGiveUp (operation_of names op) r v stopped.start

-- some lines of a transaction were done, and in the next a counted call is due
pub record IsStoppedInTransaction (names : Names) (lines : List ScriptLine) (v w : View) : Type 0 where
  pub front : List ScriptLine
  pub said : ScriptLine
  pub rest : List ScriptLine
  pub is : lines ≡ front ++ said ∷ rest
  pub middle : View
  pub made : LinesMade names front v middle
  pub stops : IsLineStopped names said.operation middle w ⊎ ((r : Refusal) × IsStoppedGivingUp names said.operation r middle w)

-- an object was being reserved outside of a transaction, and a counted call is due
pub record IsStoppedInReserve (size kind : ℕ) (v w : View) : Type 0 where
  pub start : View
  pub free : IsFree v start
  pub stop : HasStopped
  pub gives : GivesNoObject (λ u. u ≡ w) start size kind (no_block.Stopped stop)

-- so it is of a publish
pub record IsStoppedInPublish (v w : View) : Type 0 where
  pub blocks : BlockLists
  pub lists : ListsBlocks blocks (blocks_behind operation.Publish None (pending_before v) no_blocks)
  pub number : ℕ
  pub stopped : IsStoppedBy (publish_calls blocks number) v w

-- in the calls of a line outside of a transaction a counted call is due
abbrev pub IsOutsideStopped : Names → ScriptOp → View → View → Type 0
IsOutsideStopped names (Reserve letter size kind) v w = IsStoppedInReserve size kind v w
IsOutsideStopped names (WriteReserved id off bytes) v w = IsStoppedBy (put_calls names id off bytes) v w
IsOutsideStopped names Publish v w = IsStoppedInPublish v w
IsOutsideStopped names Cancel v w = (number : ℕ) × IsStoppedBy (cancels_outside number) v w
IsOutsideStopped names op v w = ⊥

abbrev pub IsStoppedInCall : Names → List ScriptLine → View → View → Type 0
IsStoppedInCall names lines v w = IsStoppedInTransaction names lines v w ⊎ ((op : ScriptOp) × IsOneLine lines op × IsOutsideStopped names op v w)

-- no generation is left to the lane, or no number
abbrev pub IsUsedUp : View → Type 0
IsUsedUp v = (generation_limit ≤ generation_of v) ⊎ (generation_limit ≤ length v.entries)

-- the lane stops in the first of these calls
pub record StopsInFirst (names : Names) (calls : List (List ScriptLine)) (stop : ℕ) (v w : View) : Type 0 where
  pub call : List ScriptLine
  pub behind : List (List ScriptLine)
  pub are : calls ≡ call ∷ behind
  pub stops : IsStoppedInCall names call v w
  pub at_stop : w.calls ≡ stop

-- the first of these calls, on this line, can't begin
pub record IsSpentAt (calls : List (List ScriptLine)) (line : ℕ) (v w : View) : Type 0 where
  pub call : List ScriptLine
  pub behind : List (List ScriptLine)
  pub are : calls ≡ call ∷ behind
  pub of_line : slice_index (numbers_of call) 0 ≡ line
  pub free : IsFree v w
  pub used_up : IsUsedUp v

-- the lane has no call left, or can't begin the first of these
abbrev pub BeginsNone : List (List ScriptLine) → View → View → Type 0
BeginsNone calls v w = ((calls ≡ []) × (w ≡ v)) ⊎ ((line : ℕ) × IsSpentAt calls line v w)

-- there it was to give up what was pending still, and a counted call is due
pub record StopsInFinish (calls : List (List ScriptLine)) (stop : ℕ) (v w : View) : Type 0 where
  pub before : View
  pub begins_none : BeginsNone calls v before
  pub stops : IsFrontOf finishes before w
  pub at_stop : w.calls ≡ stop

-- behind all of its calls the lane gave up what was pending still: all was made persistent, and each block that was reserved was given back
abbrev pub IsFinishMade : View → View → Type 0
IsFinishMade v w = w ≡ after_all v (finishes v)

-- the lane stopped in the first of these calls; or there was none, or it could not begin, and the lane stopped as it gave up what was pending
abbrev pub StopsSomewhere : Names → List (List ScriptLine) → ℕ → View → View → Type 0
StopsSomewhere names calls stop v w = StopsInFirst names calls stop v w ⊎ StopsInFinish calls stop v w

-- how a lane with these calls left to it comes to this end
abbrev pub ComesToEnd : Names → List (List ScriptLine) → LaneEnd → View → View → Type 0
ComesToEnd names calls end.Ended v w = (calls ≡ []) × IsFinishMade v w
ComesToEnd names calls (end.Stopped stop) v w = StopsSomewhere names calls stop v w
ComesToEnd names calls (end.Spent line) v w = (m : View) × IsSpentAt calls line v m × IsFinishMade m w
