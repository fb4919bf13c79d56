-- What a call on pending actions outside of a transaction leaves: it is a call of the history of its own, of one operation.
use Rattle.std.specs.Prelude.{◌≡◌, ◌⊎◌, ℕ, Bool, true, false, List, [], ◌∷◌, Option, Some, None, Result, Ok, Err}
use Rattle.solo_crash.specs.Alone.{standing}
use Rattle.solo_crash.specs.CallBlocks.{LeavesReserved}
use Rattle.solo_crash.specs.HeldHistory.{IsEndedCall}
use Rattle.solo_crash.specs.OnActions.{defer_refusal, set_refusal}
use Rattle.solo_crash.specs.OpenCall.{IsWholeCall}
use Rattle.solo_crash.specs.Pending.{pending_before, pending_behind}
use Rattle.solo_epoch.specs.Reserving.{RestsWithReserved}
use Rattle.pm_header.specs.declared.header.Header.{Header}
use Rattle.pm_layout.specs.declared.shape.Shape.{Shape}
use Rattle.solo_model.specs.Actions.{Pending}
use Rattle.pm_objects.specs.declared.calls.Operation.{Operation}
use Rattle.pm_objects.specs.declared.history.Value.{Value}
use Rattle.pm_objects.specs.declared.history.Value.TheVariants.{Refused}
use Rattle.pm_objects.specs.declared.pool.PoolView.{PoolView}
use Rattle.pm_objects.specs.declared.refusal.Refusal.{Refusal}
use Rattle.pm_objects.specs.declared.refusal.Refusal.TheVariants as refusal
use Rattle.solo_transaction.specs.AtWork.{IsNotMaking}
use Rattle.solo_transaction.specs.Resting.{StandsAtRest}
use Rattle.solo_view.specs.Constants.{IsSameLane}
use Rattle.solo_view.specs.Log.{no_log}
use Rattle.solo_view.specs.Log.Phase.{Idle}
use Rattle.solo_view.specs.Steps.{Step}
use Rattle.solo_view.specs.Steps.Step.{Tell}
use Rattle.solo_view.specs.View.{View}
use Rattle.solo_view.specs.Views.{after}
use Rattle.solo_world.specs.Opening.{Opening}
use Rattle.solo_world.specs.declared.lane.Lane.{Lane}
use Rattle.solo_lock.specs.Leading.{IsLed}
use Rattle.solo_lock.specs.Resting.{IsAtRest}
use Rattle.solo_tx.specs.Beginning.{IsSpent}
use Rattle.solo_tx.specs.Ending.{drawn_more}

-- ---- a lane that is alone, between two calls

-- the lane is at rest and alone, makes no object now, and rests in some world with what it has reserved, which stands in its words
pub record RestsAlone {M : Type 0} (at : M → View → Type 0) (lane : Lane M) (v : View) : Type 0 where
  pub rests : IsAtRest at lane v
  pub quiet : IsNotMaking v
  pub stands : StandsAtRest v
  pub world : (o : Opening) × (header : Header) × (pool : PoolView) × (start : View) × (steps : List Step) × RestsWithReserved o header pool start steps v lane.shape

-- wherever it began, the lane rests at the view with what it has reserved, which stands, and makes no object
pub record RestsStill (o : Opening) (header : Header) (pool : PoolView) (x : View) (shape : Shape) : Type 0 where
  pub rests : RestsWithReserved (standing o x) header pool x [] x shape
  pub stands : StandsAtRest x
  pub quiet : IsNotMaking x

-- the operation, so answered, leaves what is reserved or gives it up; or it is refused
abbrev pub LeavesOrRefuses : Operation → Option Value → Pending → Type 0
LeavesOrRefuses op reply p = LeavesReserved op reply p ⊎ ((r : Refusal) × (reply ≡ Some (Refused r)))

-- ---- a call that is told at once

-- once the operation is told with its reply, the call is whole
abbrev pub IsWholeOnceTold : View → Operation → Option Value → Type 0
IsWholeOnceTold v op reply = IsWholeCall (after v (Tell op reply))

-- and so it has ended; or it has, since it is a step of the model from each pool that may be before it
abbrev pub IsEndedOnceTold : View → Operation → Option Value → Type 0
IsEndedOnceTold v op reply = IsEndedCall (after v (Tell op reply))

-- from the view before, the lane made an ended call of this one operation, with this reply, without a counted call: it drew the lane's last number,
-- no call is open, and the lane rests. What is pending is what the operation leaves of it
pub record IsToldOutside {M : Type 0} (at : M → View → Type 0) (lane : Lane M) (v : View) (op : Operation) (reply : Option Value) : Type 0 where
  pub view : View
  pub led : IsLed v view
  pub same : IsSameLane v view
  pub rests : IsAtRest at lane view
  pub idle : view.log ≡ no_log Idle
  pub entries : view.entries ≡ drawn_more v.entries lane.last (record { operation = op; reply = reply } ∷ [])
  pub pending : pending_before view ≡ pending_behind op reply (pending_before v)

-- and it looked at no word that the view does not know
pub record IsToldAtOnce {M : Type 0} (at : M → View → Type 0) (lane : Lane M) (v : View) (op : Operation) (reply : Option Value) : Type 0 where
  pub told : IsToldOutside at lane v op reply
  pub words : told.view.words ≡ v.words

-- what a set-value or a free that is deferred leaves that answers so, of a lane that was at rest, which does not stop in it: Spent alone leaves no trace
abbrev pub IsAnsweredAtOnce : {M T : Type 0} → (M → View → Type 0) → Lane M → View → Operation → Result T Refusal → Type 0
IsAnsweredAtOnce at lane v op (Ok done) = IsToldAtOnce at lane v op None
IsAnsweredAtOnce at lane v op (Err refusal.Stopped) = ⊥
IsAnsweredAtOnce at lane v op (Err refusal.Spent) = IsSpent at lane v
IsAnsweredAtOnce at lane v op (Err r) = IsToldAtOnce at lane v op (Some (Refused r))

-- why a set-value at an offset fails, of a lane that had stopped or not, where this is pending
abbrev pub IsSetCause : Bool → ℕ → Pending → Refusal → Type 0
IsSetCause stopped off p refusal.Stopped = stopped ≡ true
IsSetCause stopped off p refusal.Spent = stopped ≡ false
IsSetCause stopped off p r = (stopped ≡ false) × (set_refusal off p ≡ Some r)

-- and why a free that is to be deferred does
abbrev pub IsDeferCause : Bool → Pending → Refusal → Type 0
IsDeferCause stopped p refusal.Stopped = stopped ≡ true
IsDeferCause stopped p refusal.Spent = stopped ≡ false
IsDeferCause stopped p r = (stopped ≡ false) × (defer_refusal p ≡ Some r)
