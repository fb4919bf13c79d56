-- What the begin of an outermost transaction comes to: it has begun, found a lock of another lane's, was refused, or its lane stopped as it was refused.
use Rattle.std.specs.Prelude.{◌≡◌, ◌⊎◌, ◌≤◌, Bool, true, false, Any, List, [], ◌∷◌, ◌++◌, None, Some}
use Rattle.solo_crash.specs.Locks.{AreSameLocks}
use Rattle.solo_crash.specs.OpenCall.{locks_of}
use Rattle.solo_crash.specs.Operations.{IsBeginReason}
use Rattle.solo_model.specs.Transaction.{locked_all}
use Rattle.pm_objects.specs.declared.calls.Operation.TheVariants.{Begin}
use Rattle.pm_objects.specs.declared.calls.Want.{Want}
use Rattle.pm_objects.specs.declared.history.TxErr.TheVariants as error
use Rattle.pm_objects.specs.declared.history.Value.TheVariants.{Refused}
use Rattle.pm_objects.specs.declared.refusal.Refusal.{Refusal}
use Rattle.pm_objects.specs.declared.refusal.Refusal.TheVariants as refusal
use Rattle.solo_undo.specs.Working.{FindsOpening, IsWorking}
use Rattle.solo_view.specs.Constants.{IsSameLane}
use Rattle.solo_view.specs.Log.{no_log}
use Rattle.solo_view.specs.Log.Phase.{Open}
use Rattle.solo_view.specs.View.{View}
use Rattle.solo_view.specs.Views.{after_all}
use Rattle.solo_world.specs.Lanes.{IsSeenAs}
use Rattle.solo_world.specs.Opening.{Opening, IsSound}
use Rattle.solo_world.specs.declared.lane.Lane.{Lane}
use Rattle.solo_world.specs.declared.lane.Stage.TheVariants as stage
use Rattle.solo_lock.specs.Lacking.{LacksObject}
use Rattle.solo_lock.specs.Leading.{IsLed}
use Rattle.solo_lock.specs.Locking.{IsBusy}
use Rattle.solo_tx.specs.AtWork.{IsAtWork}
use Rattle.solo_tx.specs.Beginning.{IsSpent}
use Rattle.solo_tx.specs.Ending.{IsAfterCall, IsEndedBy, IsStoppedIn}
use Rattle.solo_tx.specs.Sequences.{gives_up}

-- the transaction is open, with the locks that it wants, and that is told; whatever the pool was opened with, the lane is at work
pub record HasBegun {M : Type 0} (at : M → View → Type 0) (lane : Lane M) (v : View) (wants : List Want) : Type 0 where
  pub view : View
  pub led : IsLed v view
  pub same : IsSameLane v view
  pub seen : IsSeenAs at lane view
  pub call : view.call ≡ record { operation = Begin wants; reply = None } ∷ []
  pub undrawn : view.number ≡ None
  pub entries : view.entries ≡ v.entries
  pub locks : AreSameLocks (locks_of view) (locked_all wants [])
  pub opens : (o : Opening) → IsSound o → o.zones ≤ 32 → FindsOpening o view → IsAtWork o at lane view

-- from the view at which it was refused, where the call was open with nothing recorded: all that was undrained was made persistent, the begin was refused for
-- this reason and told so, and the call, which did nothing, drew its number. The lane holds its locks still
pub record HasRefused {M : Type 0} (at : M → View → Type 0) (lane : Lane M) (v : View) (wants : List Want) (r : Refusal) : Type 0 where
  pub found : View
  pub led : IsLed v found
  pub undrawn : found.entries ≡ v.entries
  pub working : IsWorking found
  pub log : found.log ≡ no_log (Open [] [])
  pub ended : IsEndedBy at lane found (gives_up [] (Begin wants) (Some (Refused r)) lane.last) (Begin wants) (Some (Refused r))
  pub view : View
  pub is : view ≡ after_all found (gives_up [] (Begin wants) (Some (Refused r)) lane.last found)
  pub same : IsSameLane v view
  pub over : IsAfterCall at lane view
  pub number : view.number ≡ Some lane.last
  pub call : view.call ≡ record { operation = Begin wants; reply = Some (Refused r) } ∷ []
  pub entries : view.entries ≡ v.entries ++ record { number = lane.last; call = view.call } ∷ []

-- the begin was to be refused for this reason, and the lane stopped as it made persistent what was undrained before that was told
pub record HasStoppedRefused {M : Type 0} (at : M → View → Type 0) (lane : Lane M) (v : View) (wants : List Want) : Type 0 where
  pub why : Refusal
  pub found : View
  pub led : IsLed v found
  pub undrawn : found.entries ≡ v.entries
  pub working : IsWorking found
  pub log : found.log ≡ no_log (Open [] [])
  pub reason : IsBeginReason found 0 [] wants why
  pub stopped : IsStoppedIn at lane found (gives_up [] (Begin wants) (Some (Refused why)) lane.last) (Begin wants) (Some (Refused why))

-- it was refused at once: no word was looked at since this view, and none changed
pub record IsRefusedAtOnce {M : Type 0} (at : M → View → Type 0) (lane : Lane M) (v : View) (wants : List Want) (r : Refusal) : Type 0 where
  pub refused : HasRefused at lane v wants r
  pub words : refused.view.words ≡ v.words

-- the begin was refused with NoObject, and by the words of the view at which it was, something wanted has no object
pub record HasFoundNone {M : Type 0} (at : M → View → Type 0) (lane : Lane M) (v : View) (wants : List Want) : Type 0 where
  pub refused : HasRefused at lane v wants refusal.NoObject
  pub lacking : Any (LacksObject refused.view) wants

-- what a begin that fails with this refusal leaves of the view
abbrev pub FailsToBegin : {M : Type 0} → (M → View → Type 0) → Lane M → View → List Want → Refusal → Type 0
FailsToBegin at lane v wants refusal.Stopped = HasStoppedRefused at lane v wants
FailsToBegin at lane v wants refusal.Spent = IsSpent at lane v
FailsToBegin at lane v wants refusal.Busy = IsBusy at lane v
FailsToBegin at lane v wants refusal.LocksFull = HasRefused at lane v wants refusal.LocksFull
FailsToBegin at lane v wants refusal.NoObject = HasRefused at lane v wants refusal.NoObject
FailsToBegin at lane v wants r = ⊥

-- why a begin fails, of a lane that had stopped or not: one that had not may stop as the begin is refused
abbrev pub IsBeginCause : Bool → Refusal → Type 0
IsBeginCause stopped refusal.Stopped = Unit {0}
IsBeginCause stopped refusal.Spent = stopped ≡ false
IsBeginCause stopped refusal.Busy = stopped ≡ false
IsBeginCause stopped refusal.LocksFull = stopped ≡ false
IsBeginCause stopped refusal.NoObject = stopped ≡ false
IsBeginCause stopped r = ⊥

-- and once it has looked at its generation and its number
abbrev pub IsStartedCause : Refusal → Type 0
IsStartedCause refusal.Stopped = Unit {0}
IsStartedCause refusal.Busy = Unit {0}
IsStartedCause refusal.LocksFull = Unit {0}
IsStartedCause refusal.NoObject = Unit {0}
IsStartedCause r = ⊥

-- and of the lane's fields: nothing changes where it had stopped, and of one that stops only that, and which locks it has; one that is refused leaves level 1,
-- aborted, with its number to be answered
abbrev pub LeavesLane : {M : Type 0} → Refusal → Lane M → Lane M → Type 0
LeavesLane refusal.Stopped old new = ((old.stopped ≡ true) × (new ≡ old)) ⊎ ((old.stopped ≡ false) × (new ≡ record old { memory = new.memory; locks = new.locks; stopped = true }))
LeavesLane refusal.Spent old new = new ≡ record old { memory = new.memory }
LeavesLane refusal.Busy old new = new ≡ record old { memory = new.memory; locks = new.locks }
LeavesLane refusal.LocksFull old new = new ≡ record old { memory = new.memory; locks = new.locks; level = 1; stage = stage.OnAbort; error = error.Refused refusal.LocksFull; drawn = Some new.last; last = new.last }
LeavesLane refusal.NoObject old new = new ≡ record old { memory = new.memory; locks = new.locks; level = 1; stage = stage.OnAbort; error = error.Refused refusal.NoObject; drawn = Some new.last; last = new.last }
LeavesLane r old new = ⊥
