-- A publish outside of a transaction of all that is pending, of whatever kind, by a lane that is alone: one call of the history, which one log decides.
use Rattle.std.specs.Prelude.{◌≡◌, ℕ, ◌+◌, ◌≤◌, false, All, List, [], ◌∷◌, ◌++◌, length, map, None, slice_index}
use Rattle.solo_crash.specs.Alone.{BeginsAgain, WorksAlone, standing}
use Rattle.solo_crash.specs.CallBlocks.{FreeNoRoot, reserved_in}
use Rattle.solo_crash.specs.OnActions.{CanFree, CanSet, HoldsInTime, blocks_published}
use Rattle.solo_crash.specs.Pending.{pending_before, sets_before}
use Rattle.solo_crash.specs.Reserved.{root_in}
use Rattle.solo_crash.specs.Reserving.{HasReserved}
use Rattle.pm_header.specs.declared.header.Header.{Header}
use Rattle.solo_lock.specs.Begun.{HoldsLines, MayCome}
use Rattle.solo_lock.specs.Finding.{FindsObjects}
use Rattle.solo_lock.specs.Leading.{IsLed}
use Rattle.solo_made.specs.Entries.{entries_of}
use Rattle.solo_made.specs.Made.{BlockLists, ListsBlocks}
use Rattle.solo_memory.specs.Runs.{Stops}
use Rattle.solo_model.specs.Actions.{none_pending}
use Rattle.pm_objects.specs.declared.calls.Operation.TheVariants.{Publish}
use Rattle.pm_objects.specs.declared.calls.Operation.{Operation}
use Rattle.pm_objects.specs.declared.history.TxErr.TheVariants as error
use Rattle.pm_objects.specs.declared.pool.PoolView.{PoolView}
use Rattle.solo_pending.specs.AllPending.{IsPendingAs}
use Rattle.solo_pending.specs.Pending.{redo_for}
use Rattle.solo_pending.specs.declared.pending.PendingActions.{PendingActions}
use Rattle.pm_record.specs.declared.redo.Redo.{Redo}
use Rattle.solo_redo.specs.Entering.{MayEnter}
use Rattle.solo_tx.specs.Ending.{IsAfterCall, IsOver, IsStoppedAmong, drawn_more, told_more}
use Rattle.solo_tx.specs.Publishing.{published_view}
use Rattle.solo_tx.specs.Sequences.{performs_logged}
use Rattle.solo_undo.specs.Working.{FindsOpening, IsWorking}
use Rattle.solo_view.specs.Constants.{IsSameLane}
use Rattle.solo_view.specs.Founds.{IsAlone}
use Rattle.solo_view.specs.Log.Phase.{Idle, Open}
use Rattle.solo_view.specs.Log.{no_log}
use Rattle.solo_view.specs.Steps.{Step}
use Rattle.solo_view.specs.View.{View}
use Rattle.solo_view.specs.Views.{after_all}
use Rattle.solo_world.specs.Lanes.{IsSeenAs}
use Rattle.solo_world.specs.Opening.{IsSound, Opening}
use Rattle.solo_world.specs.Sequences.{Ready, Sequence, settles}
use Rattle.solo_world.specs.declared.lane.HeldLock.{HeldLock}
use Rattle.solo_world.specs.declared.lane.Lane.{Lane}
use Rattle.solo_transaction.specs.AtWork.{IsHeldFreed, IsNotMaking, LiesInReserved}
use Rattle.solo_transaction.specs.Committing.{MayPublishBlocks}
use Rattle.solo_transaction.specs.Ending.{HasEndedWith}
use Rattle.solo_transaction.specs.Published.{HasOwnCounts, LogsCall, logs_call}
use Rattle.solo_action.specs.Holding.{HoldsPending}
use Rattle.solo_action.specs.Outside.{RestsStill}

-- The lane is alone, and its call has begun, with nothing told, recorded or listed. It holds each object that is to be freed or set, for writing, found each, and none
-- is asked for late; none that is to be freed is the root. What is reserved stands, in blocks that it reserved, and it is not in the midst of making an object. The lists are what
-- is pending.
pub record HoldsAll {M : Type 0} (o : Opening) (at : M → View → Type 0) (lane : Lane M) (pending : PendingActions) (v : View) : Type 0 where
  pub seen : IsSeenAs at lane v
  pub unharmed : lane.error ≡ error.None
  pub unstopped : lane.stopped ≡ false
  pub unlisted : lane.entries.items ≡ []
  pub no_spans : lane.records.items ≡ []
  pub working : IsWorking v
  pub log : v.log ≡ no_log (Open [] [])
  pub undrawn : v.number ≡ None
  pub untold : v.call ≡ []
  pub may_come : MayCome v
  pub lines : HoldsLines v
  pub alone : IsAlone v
  pub not_making : IsNotMaking v
  pub sound : IsSound o
  pub zones : o.zones ≤ 32
  pub opening : FindsOpening o v
  pub objects : FindsObjects v
  pub holds : HoldsInTime v
  pub frees : All (CanFree v) (pending_before v).frees
  pub each : All (CanSet v) (sets_before v)
  pub not_root : FreeNoRoot (root_in (slice_index v.words)) (pending_before v).frees
  pub has_reserved : HasReserved v
  pub reserved_within : All (LiesInReserved v) (reserved_in v)
  pub listed : IsPendingAs pending (pending_before v)

-- these are the lists of what is made and freed once all that is pending is published: each object that is freed lies under one of the locks, with its block's lines
pub record ListsPending (locks : List HeldLock) (v : View) (blocks : BlockLists) : Type 0 where
  pub of_call : ListsBlocks blocks (blocks_published v)
  pub held : All (IsHeldFreed locks) blocks.freed

-- the redo entries of such lists may be entered: the pool has room for each block, and the lane may enter each
abbrev pub MayPublishPending : List HeldLock → View → Type 0
MayPublishPending locks v = (blocks : BlockLists) → ListsPending locks v blocks → MayPublishBlocks v blocks

-- the redo entries of what is pending, in a pool of so many lanes: those of the words that are to be set, and behind them those of the blocks
abbrev pub entries_pending : PendingActions → ℕ → BlockLists → List Redo
entries_pending pending lanes blocks = map redo_for pending.sets.items ++ entries_of lanes blocks

-- the steps were made, and then no call is open: it came to the publish, and its entry is the last. Whether what they draw is an ended call's is not said
pub record HasPublishedAll {M : Type 0} (at : M → View → Type 0) (lane : Lane M) (v : View) (steps : Sequence) : Type 0 where
  pub ready : Ready v (steps v)
  pub behind : IsAfterCall at lane (after_all v (steps v))
  pub over : IsOver v (after_all v (steps v)) lane.last
  pub told : (after_all v (steps v)).call ≡ told_more v.call Publish None
  pub entries : (after_all v (steps v)).entries ≡ drawn_more v.entries lane.last (after_all v (steps v)).call

-- ---- of a lane that works alone

-- the memory calls of such a publish, by this number: all is made persistent, and one log of the entries of all that is pending decides it
abbrev pub publishes_pending : View → PendingActions → BlockLists → ℕ → Sequence
publishes_pending v pending blocks n = logs_call Publish (entries_pending pending v.lanes blocks) n

-- wherever the lane works alone at the view, its publish is a call that one log decides
abbrev pub PublishLogs : View → PendingActions → BlockLists → Type 0
PublishLogs v pending blocks =
    (o : Opening) (header : Header) (pool : PoolView) (start : View) (steps : List Step) → WorksAlone o header pool start steps v
    → LogsCall o header pool start steps Publish (sets_before v) blocks v (entries_pending pending v.lanes blocks)

-- From the view at which the lane held all, the memory calls were made, and the call told and drew its number; then the lane gave its locks back, and the blocks that it had freed,
-- and it rests with nothing undrained, reserved or pending. Wherever it worked alone as it held all, the call is decided by one log, and the lane rests behind it, and
-- begins again, over the words as they stand.
pub record HasPublishedHeld {M : Type 0} (at : M → View → Type 0) (lane : Lane M) (pending : PendingActions) (blocks : BlockLists) (v : View) : Type 0 where
  pub lists : ListsBlocks blocks (blocks_published v)
  pub logs : PublishLogs v pending blocks
  pub ready : Ready v (publishes_pending v pending blocks lane.last v)
  pub over : IsOver v (after_all v (publishes_pending v pending blocks lane.last v)) lane.last
  pub told : (after_all v (publishes_pending v pending blocks lane.last v)).call ≡ record { operation = Publish; reply = None } ∷ []
  pub locks : List HeldLock
  pub ended : HasEndedWith at lane (after_all v (publishes_pending v pending blocks lane.last v)) locks []
  pub same : IsSameLane v ended.view
  pub idle : ended.view.log ≡ no_log Idle
  pub entries : ended.view.entries ≡ drawn_more v.entries lane.last (record { operation = Publish; reply = None } ∷ [])
  pub none : pending_before ended.view ≡ none_pending
  pub keeps : (o : Opening) (header : Header) (pool : PoolView) (start : View) (steps : List Step) → WorksAlone o header pool start steps v → RestsStill o header pool ended.view lane.shape
  pub begins : (o : Opening) (header : Header) (pool : PoolView) (start : View) (steps : List Step) → WorksAlone o header pool start steps v → BeginsAgain (standing o ended.view) header pool ended.view

-- from that view, at which a number was left for the call, the first of the memory calls were made, up to the lane's stop
pub record IsStoppedHeld {M : Type 0} (at : M → View → Type 0) (lane : Lane M) (pending : PendingActions) (blocks : BlockLists) (v : View) : Type 0 where
  pub lists : ListsBlocks blocks (blocks_published v)
  pub logs : PublishLogs v pending blocks
  pub may_come : MayCome v
  pub stopped : IsStoppedAmong at lane v (publishes_pending v pending blocks lane.last) Publish None

-- From the view before, without a counted call or a draw, the lane's call came to hold all that is pending, a free or a reservation among it, and from there it published all of it
pub record IsPublishedAll {M : Type 0} (at : M → View → Type 0) (lane : Lane M) (pending : PendingActions) (blocks : BlockLists) (v : View) : Type 0 where
  pub some : 1 ≤ length (pending_before v).frees + length (pending_before v).reserved
  pub holding : View
  pub led : IsLed v holding
  pub undrawn : holding.entries ≡ v.entries
  pub counts : HasOwnCounts holding
  pub untold : holding.call ≡ []
  pub holds : HoldsPending holding (pending_before v)
  pub done : HasPublishedHeld at lane pending blocks holding

-- or it stopped in that
pub record IsStoppedPublishingAll {M : Type 0} (at : M → View → Type 0) (lane : Lane M) (pending : PendingActions) (blocks : BlockLists) (v : View) : Type 0 where
  pub some : 1 ≤ length (pending_before v).frees + length (pending_before v).reserved
  pub holding : View
  pub led : IsLed v holding
  pub undrawn : holding.entries ≡ v.entries
  pub counts : HasOwnCounts holding
  pub untold : holding.call ≡ []
  pub works : IsWorking holding
  pub holds : HoldsPending holding (pending_before v)
  pub stops : IsStoppedHeld at lane pending blocks holding

-- ---- the steps

-- the call is at work, without redo entries, and may be decided by a log of these, some at least and 63 at most, each one that the lane may enter; a number is left for it
pub record MayLogCall (v : View) (entries : List Redo) : Type 0 where
  pub working : IsWorking v
  pub no_entries : v.log.entries ≡ []
  pub some : 1 ≤ length entries
  pub few : length entries ≤ 63
  pub each : All (MayEnter v) entries
  pub may_come : MayCome v

-- the view once all is persistent, these entries are logged, the operation is told and the call drew this number
abbrev pub decided_view : View → List Redo → Operation → ℕ → View
decided_view v entries op n = published_view (after_all v (settles v)) entries op n

-- from each such view the call drew this number, and the lane stopped behind that
abbrev pub StopsDecided : (View → Type 0) → (View → Type 0) → List Redo → Operation → ℕ → Type 0
StopsDecided old new entries op n = (v : View) → old v → Ready v (logs_call op entries n v) → Stops new (decided_view v entries op n) (performs_logged entries (decided_view v entries op n))
