-- What a publish outside of a transaction leaves: all that is pending takes effect at once, or the lane stopped in it.
use Rattle.std.specs.Prelude.{◌≡◌, ◌⊎◌, ◌≤◌, All, Bool, false, List, [], ◌∷◌, length, map, None, Result, Ok, Err}
use Rattle.solo_crash.specs.Alone.{WorksAlone}
use Rattle.solo_crash.specs.CallBlocks.{reserved_in}
use Rattle.solo_crash.specs.Pending.{pending_before, sets_before}
use Rattle.solo_crash.specs.Reserving.{HasReserved}
use Rattle.pm_header.specs.declared.header.Header.{Header}
use Rattle.solo_made.specs.Made.{BlockLists}
use Rattle.solo_model.specs.Actions.{Action, none_pending, only_sets}
use Rattle.pm_objects.specs.declared.calls.Operation.TheVariants.{Publish}
use Rattle.pm_objects.specs.declared.pool.PoolView.{PoolView}
use Rattle.pm_objects.specs.declared.refusal.Refusal.{Refusal}
use Rattle.pm_objects.specs.declared.refusal.Refusal.TheVariants as refusal
use Rattle.solo_pending.specs.Pending.{entry_of}
use Rattle.solo_pending.specs.AllPending.{IsPendingAs}
use Rattle.solo_pending.specs.declared.pending.PendingActions.{PendingActions}
use Rattle.pm_record.specs.declared.redo.Redo.{Redo}
use Rattle.solo_redo.specs.Entering.{IsOfPool}
use Rattle.solo_undo.specs.Working.{IsWorking}
use Rattle.solo_view.specs.Constants.{IsSameLane}
use Rattle.solo_view.specs.Log.{no_log}
use Rattle.solo_view.specs.Log.Phase.{Idle}
use Rattle.solo_view.specs.Steps.{Step}
use Rattle.solo_view.specs.View.{View}
use Rattle.solo_view.specs.Views.{after_all}
use Rattle.solo_world.specs.Opening.{Opening}
use Rattle.solo_world.specs.Sequences.{Ready, settles}
use Rattle.solo_world.specs.declared.lane.Lane.{Lane}
use Rattle.solo_lock.specs.Begun.{IsBegun}
use Rattle.solo_lock.specs.Leading.{DrawEnded, IsLed}
use Rattle.solo_lock.specs.Locking.{IsBusy}
use Rattle.solo_lock.specs.Resting.{IsAtRest}
use Rattle.solo_tx.specs.Beginning.{IsSpent}
use Rattle.solo_tx.specs.Ending.{IsStoppedIn, drawn_more}
use Rattle.solo_tx.specs.Publishing.{MayPublish}
use Rattle.solo_tx.specs.Sequences.{publishes_outside}
use Rattle.solo_transaction.specs.AtWork.{IsNotMaking, LiesInReserved}
use Rattle.solo_transaction.specs.Published.{HasOwnCounts}
use Rattle.solo_action.specs.Holding.{FindsSound, HasFoundNone, HasFoundRoot, HasFoundShort, HoldsActions, HoldsPending}
use Rattle.solo_action.specs.Outside.{IsToldAtOnce, RestsStill}
use Rattle.solo_action.specs.PublishingAll.{IsPublishedAll, IsStoppedPublishingAll}

-- a call that has begun holds the objects of the actions, and finds the pool sound
pub record MayPublishHeld {M : Type 0} (at : M → View → Type 0) (lane : Lane M) (actions : List Action) (v : View) : Type 0 where
  pub begun : IsBegun at lane v
  pub holds : HoldsActions v actions
  pub sound : FindsSound v

-- A call that has begun of a lane that works alone somewhere holds all that is pending, and finds the pool sound. What is reserved stands, in blocks that it reserved, and it is not in the
-- midst of making an object
pub record HoldsToPublish {M : Type 0} (at : M → View → Type 0) (lane : Lane M) (pending : PendingActions) (v : View) : Type 0 where
  pub begun : IsBegun at lane v
  pub holds : HoldsPending v (pending_before v)
  pub sound : FindsSound v
  pub listed : IsPendingAs pending (pending_before v)
  pub not_making : IsNotMaking v
  pub reserved : HasReserved v
  pub within : All (LiesInReserved v) (reserved_in v)
  pub world : (o : Opening) × (header : Header) × (pool : PoolView) × (start : View) × (steps : List Step) × WorksAlone o header pool start steps v

-- the entries that perform the actions
abbrev pub entries_of : List Action → List Redo
entries_of actions = map entry_of actions

-- from the view before, without a counted call or a draw, the call went on to one at which it held the objects of the actions. From there it made all
-- persistent, logged the actions, was told, drew the lane's last number and performed them all; then the locks went back, no call is open, and the lane
-- rests with nothing undrained. Nothing is pending now; and wherever the lane worked alone as it held the objects, it rests there with nothing reserved
pub record IsPublishedBy {M : Type 0} (at : M → View → Type 0) (lane : Lane M) (actions : List Action) (v : View) : Type 0 where
  pub holding : View
  pub led : IsLed v holding
  pub holds : HoldsActions holding actions
  pub undrawn : holding.entries ≡ v.entries
  pub counts : HasOwnCounts holding
  pub ready : Ready holding (publishes_outside (entries_of actions) Publish lane.last holding)
  pub draws : DrawEnded holding (publishes_outside (entries_of actions) Publish lane.last holding)
  pub view : View
  pub back : IsLed (after_all holding (publishes_outside (entries_of actions) Publish lane.last holding)) view
  pub same : IsSameLane v view
  pub rests : IsAtRest at lane view
  pub drained : view.changes ≡ []
  pub idle : view.log ≡ no_log Idle
  pub entries : view.entries ≡ drawn_more v.entries lane.last (record { operation = Publish; reply = None } ∷ [])
  pub few : length actions ≤ 63
  pub drawn_there : view.entries ≡ (after_all holding (publishes_outside (entries_of actions) Publish lane.last holding)).entries
  pub pending : pending_before view ≡ none_pending
  pub keeps : (o : Opening) (header : Header) (pool : PoolView) (start : View) (steps : List Step) → WorksAlone o header pool start steps holding → RestsStill o header pool view lane.shape

-- it held them, so that each entry is of a word that it locked for writing and may be published once all is persistent, and the lane stopped as it made that
-- so, or as it published
pub record IsStoppedPublishing {M : Type 0} (at : M → View → Type 0) (lane : Lane M) (actions : List Action) (v : View) : Type 0 where
  pub holding : View
  pub led : IsLed v holding
  pub holds : HoldsActions holding actions
  pub undrawn : holding.entries ≡ v.entries
  pub counts : HasOwnCounts holding
  pub untold : holding.call ≡ []
  pub works : IsWorking holding
  pub may : MayPublish (after_all holding (settles holding)) (entries_of actions)
  pub own : All (IsOfPool holding) (entries_of actions)
  pub stopped : IsStoppedIn at lane holding (publishes_outside (entries_of actions) Publish lane.last) Publish None

-- words alone are pending, some at least
pub record AreSetsAlone (v : View) : Type 0 where
  pub alone : pending_before v ≡ only_sets (sets_before v)
  pub some : 1 ≤ length (sets_before v)

-- nothing is pending, and so the publish is told, and that is all
pub record IsPublishedNone {M : Type 0} (at : M → View → Type 0) (lane : Lane M) (v : View) : Type 0 where
  pub none : pending_before v ≡ none_pending
  pub told : IsToldAtOnce at lane v Publish None

-- what a publish leaves that is done: of nothing, of words alone, or of frees and reservations with what words there are
abbrev pub IsPublished : {M : Type 0} → (M → View → Type 0) → Lane M → PendingActions → BlockLists → View → Type 0
IsPublished at lane pending blocks v = IsPublishedNone at lane v ⊎ (AreSetsAlone v × IsPublishedBy at lane (sets_before v) v) ⊎ IsPublishedAll at lane pending blocks v

-- and one that the lane stopped in
abbrev pub IsStoppedInPublish : {M : Type 0} → (M → View → Type 0) → Lane M → PendingActions → BlockLists → View → Type 0
IsStoppedInPublish at lane pending blocks v = (AreSetsAlone v × IsStoppedPublishing at lane (sets_before v) v) ⊎ IsStoppedPublishingAll at lane pending blocks v

-- what a publish that answers so leaves of a lane that was at rest, alone: with these lists of what was pending, and of what it made and freed
abbrev pub PublishEnds : {M T : Type 0} → (M → View → Type 0) → Lane M → PendingActions → BlockLists → View → Result T Refusal → Type 0
PublishEnds at lane pending blocks v (Ok done) = IsPublished at lane pending blocks v
PublishEnds at lane pending blocks v (Err refusal.Stopped) = IsStoppedInPublish at lane pending blocks v
PublishEnds at lane pending blocks v (Err refusal.Spent) = IsSpent at lane v
PublishEnds at lane pending blocks v (Err refusal.Busy) = IsBusy at lane v
PublishEnds at lane pending blocks v (Err refusal.NoObject) = HasFoundNone at lane (pending_before v) v
PublishEnds at lane pending blocks v (Err refusal.RootKept) = HasFoundRoot at lane (pending_before v) v
PublishEnds at lane pending blocks v (Err refusal.OutOfRange) = HasFoundShort at lane (pending_before v) v
PublishEnds at lane pending blocks v (Err r) = ⊥

-- why a publish fails, of a lane that had stopped or not
abbrev pub IsPublishCause : Bool → Refusal → Type 0
IsPublishCause stopped refusal.Stopped = Unit {0}
IsPublishCause stopped refusal.Spent = stopped ≡ false
IsPublishCause stopped refusal.Busy = stopped ≡ false
IsPublishCause stopped refusal.NoObject = stopped ≡ false
IsPublishCause stopped refusal.RootKept = stopped ≡ false
IsPublishCause stopped refusal.OutOfRange = stopped ≡ false
IsPublishCause stopped r = ⊥

-- and once it has begun
abbrev pub IsBegunPublishCause : Refusal → Type 0
IsBegunPublishCause refusal.Stopped = Unit {0}
IsBegunPublishCause refusal.Busy = Unit {0}
IsBegunPublishCause refusal.NoObject = Unit {0}
IsBegunPublishCause refusal.RootKept = Unit {0}
IsBegunPublishCause refusal.OutOfRange = Unit {0}
IsBegunPublishCause r = ⊥
