-- A call of a lane that works alone, decided by one log: committed or published with the redo entries of what it set, made and freed: docs/MODEL.md, "From call to call".
use Rattle.std.specs.Prelude.{◌≡◌, ◌≢◌, ◌⊎◌, ℕ, ◌≤◌, All, Contains, List, [], ◌++◌, length, map, nat_eq, None, slice_index}
use Rattle.std.specs.List.{IsDistinct}
use Rattle.std.specs.Option.{ForSome}
use Rattle.solo_crash.specs.CallBlocks.{blocks_in}
use Rattle.solo_crash.specs.OpenCall.{IsCommitted}
use Rattle.solo_crash.specs.Operations.{KeepsWords, Tells}
use Rattle.solo_crash.specs.Pending.{published_in}
use Rattle.solo_crash.specs.Reserved.{IsBorneOut}
use Rattle.solo_crash.specs.Alone.{WorksAlone}
use Rattle.solo_crash.specs.Publishing.{Published}
use Rattle.solo_epoch.specs.Epochs.{IsPublishing}
use Rattle.pm_header.specs.declared.header.Header.{Header}
use Rattle.solo_made.specs.Entries.{entries_of}
use Rattle.solo_made.specs.Made.{BlockLists, ListsBlocks, new_of}
use Rattle.solo_made.specs.declared.objects.Freed.{Freed}
use Rattle.solo_made.specs.declared.objects.Made.{Made}
use Rattle.solo_memory.specs.Solo.{AreNumbered}
use Rattle.solo_model.specs.Actions.{Action}
use Rattle.pm_objects.specs.declared.calls.Operation.{Operation}
use Rattle.pm_objects.specs.declared.pool.PoolView.{PoolView}
use Rattle.solo_pending.specs.Pending.{entry_of}
use Rattle.pm_record.specs.declared.redo.Redo.{Redo}
use Rattle.solo_redo.specs.Entering.{EntersHeap, MayEnter}
use Rattle.solo_tx.specs.Sequences.{publishes}
use Rattle.solo_undo.specs.Working.{IsWorking}
use Rattle.solo_view.specs.Founds.{IsAlone}
use Rattle.solo_view.specs.Steps.{Step}
use Rattle.solo_view.specs.View.{View}
use Rattle.solo_world.specs.Opening.{Opening}
use Rattle.solo_world.specs.Records.{generation_of}
use Rattle.solo_world.specs.Sequences.{Sequence, in_turn, settles}
use Rattle.solo_world.specs.declared.lane.Lane.{Lane}
use Rattle.solo_transaction.specs.AtWork.{IsAtWorkWith, IsNotMaking, IsUnderLock, LiesInReserved}

-- all is made persistent, and then the call is decided by one log: these entries are logged, the operation is told without a value, the call draws this number, and
-- the log is performed
unfoldable pub logs_call : Operation → List Redo → ℕ → Sequence
logs_call op entries n = in_turn settles (publishes entries op n)

-- the call is told by this operation, without a value: no word is recorded or reserved with that, and none changed but in the lane's own area
pub record IsToldBy (v next : View) (op : Operation) : Type 0 where
  pub tells : Tells v next op None
  pub records : next.log.records ≡ v.log.records
  pub words : KeepsWords v next
  pub reserved : next.reserved ≡ v.reserved

-- the call is committed with these actions and with these lists of what it made and freed, and what the lane has bears that out
pub record IsCommittedWith (next : View) (actions : List Action) (blocks : BlockLists) : Type 0 where
  pub committed : IsCommitted next
  pub borne_out : IsBorneOut next
  pub published : published_in next ≡ actions
  pub lists : ListsBlocks blocks (blocks_in next)

-- The lane works alone in an open call that drew no number and has no redo entries, and may enter these, some at least: those of the actions, and behind them those of
-- the blocks. Once the call is told by this operation it is committed with them. What is to be freed lies under the lane's locks, each object once, and is not the root;
-- what is to be made lies in what it reserved.
pub record LogsCall (o : Opening) (header : Header) (pool : PoolView) (start : View) (steps : List Step) (op : Operation) (actions : List Action) (blocks : BlockLists) (v : View) (entries : List Redo) : Type 0 where
  pub works : WorksAlone o header pool start steps v
  pub working : IsWorking v
  pub no_entries : v.log.entries ≡ []
  pub alone : IsAlone v
  pub not_making : IsNotMaking v
  pub are : entries ≡ map entry_of actions ++ entries_of v.lanes blocks
  pub some : 1 ≤ length entries
  pub few : length entries ≤ 63
  pub may_set : All (MayEnter v) (map entry_of actions)
  pub enters_heap : All (EntersHeap v) (entries_of v.lanes blocks)
  pub told : (next : View) → IsToldBy v next op → IsCommittedWith next actions blocks
  pub freed_once : IsDistinct nat_eq (map (λ (f : Freed). f.off) blocks.freed)
  pub freed_under : (f : Freed) → Contains blocks.freed f → IsUnderLock v f.off f.lines
  pub not_root : (f : Freed) → Contains blocks.freed f → slice_index v.words 64 ≢ f.off
  pub made_within : (m : Made) → Contains blocks.made m → LiesInReserved v (new_of m)

-- The lane works alone, and is at work in a transaction of one level, with these lists of what that made and freed. These entries are those that it lists, and those
-- of the blocks; there is one at least.
pub record CommitsAlone {M : Type 0} (o : Opening) (header : Header) (pool : PoolView) (start : View) (steps : List Step) (at : M → View → Type 0) (lane : Lane M) (blocks : BlockLists) (v : View) (entries : List Redo) : Type 0 where
  pub works : WorksAlone o header pool start steps v
  pub work : IsAtWorkWith o at lane blocks v
  pub outer : lane.level ≡ 1
  pub are : entries ≡ lane.entries.items ++ entries_of v.lanes blocks
  pub some : 1 ≤ length entries

-- the numbers drawn are the lane's own, and it made no more counted calls than up to its stop number
pub record HasOwnCounts (w : View) : Type 0 where
  pub numbered : AreNumbered 1 w.entries
  pub within : ForSome w.stop (λ stop. w.calls ≤ stop)

-- the call drew this number with a log that has all that it publishes, and since then made steps that publish it
pub record HasDrawn (o : Opening) (header : Header) (pool : PoolView) (n : ℕ) (w : View) : Type 0 where
  pub drawn : View
  pub all : List Published
  pub publishing : IsPublishing o header pool drawn n all w

-- it did, or the lane works alone still, by some steps more
abbrev pub IsCommittingAlone : Opening → Header → PoolView → View → List Step → ℕ → View → Type 0
IsCommittingAlone o header pool start steps n w = ((more : List Step) × WorksAlone o header pool start (steps ++ more) w) ⊎ HasDrawn o header pool n w

-- so it is, and where it drew the number the lane had this generation then
abbrev pub IsCommittingIn : ℕ → Opening → Header → PoolView → View → List Step → ℕ → View → Type 0
IsCommittingIn generation o header pool start steps n w =
    ((more : List Step) × WorksAlone o header pool start (steps ++ more) w) ⊎ ((has : HasDrawn o header pool n w) × (generation_of has.drawn ≡ generation))
