-- What is pending given up outside of a transaction (pmemobj_cancel(3)), and at the end of a lane's work: docs/FORMAT.md, "Sequences".
use Rattle.std.specs.Prelude.{◌≡◌, ◌↔◌, ℕ, ◌<◌, Bool, true, false, List, [], ◌∷◌, map, None, Result, Ok, Err}
use Rattle.solo_crash.specs.CallBlocks.{NewObject, block_of, reserved_object}
use Rattle.solo_crash.specs.Pending.{pending_before}
use Rattle.solo_epoch.specs.GivingBack.{gives_back}
use Rattle.solo_epoch.specs.Reserving.{RestsWithReserved, with_next_call}
use Rattle.pm_header.specs.declared.header.Header.{Header}
use Rattle.solo_lock.specs.Leading.{DrawEnded, IsLed}
use Rattle.solo_lock.specs.Resting.{IsAtRest}
use Rattle.solo_memory.specs.Runs.{Stops}
use Rattle.solo_model.specs.Actions.{none_pending}
use Rattle.pm_objects.specs.declared.calls.Operation.TheVariants.{Cancel}
use Rattle.pm_objects.specs.declared.pool.PoolView.{PoolView}
use Rattle.pm_objects.specs.declared.refusal.Refusal.{Refusal}
use Rattle.pm_objects.specs.declared.refusal.Refusal.TheVariants as refusal
use Rattle.solo_reclaim.specs.KeptBlocks.{IsKeptBit}
use Rattle.solo_tx.specs.Beginning.{IsSpent}
use Rattle.solo_tx.specs.Ending.{IsStoppedIn, drawn_more}
use Rattle.solo_tx.specs.Sequences.{ends_call}
use Rattle.solo_undo.specs.Working.{IsWorking}
use Rattle.solo_view.specs.Log.{no_log}
use Rattle.solo_view.specs.Log.Phase.{Idle}
use Rattle.solo_view.specs.Steps.{Step}
use Rattle.solo_view.specs.View.{View}
use Rattle.solo_view.specs.Views.{after_all, reserves}
use Rattle.solo_view.specs.declared.occ.Occ.{Occ}
use Rattle.solo_world.specs.Lanes.{IsSeenAs}
use Rattle.solo_world.specs.Opening.{Opening}
use Rattle.solo_world.specs.Sequences.{Ready, Sequence, by_view, in_turn, settles}
use Rattle.solo_world.specs.declared.lane.Lane.{Lane}
use Rattle.solo_action.specs.Outside.{RestsStill}

-- ---- the memory calls

-- the objects that what is reserved is to become, as the view's call begins
abbrev pub objects_reserved : View → List NewObject
objects_reserved v = map reserved_object (pending_before v).reserved

-- the block of each object that was reserved as the view's call began is given back
abbrev pub gives_reserved : View → Sequence
gives_reserved v w = gives_back w.lanes (map reserved_object (pending_before v).reserved)

-- all is made persistent, the cancel is told and the call draws this number, and then what was reserved is given back
unfoldable pub cancels_outside : ℕ → Sequence
cancels_outside n = by_view (λ v. in_turn settles (in_turn (ends_call Cancel None n) (gives_reserved v)))

-- the same without a call: nothing is told, and no number drawn
unfoldable pub finishes : Sequence
finishes = by_view (λ v. in_turn settles (gives_reserved v))

-- ---- a cancel

-- the view once a call began there that gave up what was pending, by this number
abbrev pub canceled_view : View → ℕ → View
canceled_view v n = after_all (with_next_call v) (cancels_outside n (with_next_call v))

-- The call began; from there all was made persistent, the cancel was told and the lane's last number drawn, and each block that was reserved was given back. No call is open, and
-- the lane rests with nothing undrained and nothing pending; it has reserved what it had but for these blocks. Wherever it began, it rests there with nothing reserved.
pub record HasCanceledOutside {M : Type 0} (at : M → View → Type 0) (lane : Lane M) (v : View) : Type 0 where
  pub led : IsLed v (with_next_call v)
  pub undrawn : (with_next_call v).entries ≡ v.entries
  pub ready : Ready (with_next_call v) (cancels_outside lane.last (with_next_call v))
  pub draws : DrawEnded (with_next_call v) (cancels_outside lane.last (with_next_call v))
  pub rests : IsAtRest at lane (canceled_view v lane.last)
  pub idle : (canceled_view v lane.last).log ≡ no_log Idle
  pub entries : (canceled_view v lane.last).entries ≡ drawn_more v.entries lane.last (record { operation = Cancel; reply = None } ∷ [])
  pub pending : pending_before (canceled_view v lane.last) ≡ none_pending
  pub words : (canceled_view v lane.last).words ≡ v.words
  pub drained : (canceled_view v lane.last).changes ≡ []
  pub left : (word : Occ) (bit : ℕ) → bit < 64
      → (reserves (canceled_view v lane.last) word bit ≡ true) ↔ ((reserves v word bit ≡ true) × ¬ IsKeptBit v.lanes (map block_of (objects_reserved v)) word bit)
  pub keeps : (o : Opening) (header : Header) (pool : PoolView) (start : View) (steps : List Step) → RestsWithReserved o header pool start steps v lane.shape
      → RestsStill o header pool (canceled_view v lane.last) lane.shape

-- The call began, and the lane stopped as it made all persistent, before the cancel was told: no block was given back
pub record IsStoppedCanceling {M : Type 0} (at : M → View → Type 0) (lane : Lane M) (v : View) : Type 0 where
  pub led : IsLed v (with_next_call v)
  pub undrawn : (with_next_call v).entries ≡ v.entries
  pub untold : (with_next_call v).call ≡ []
  pub works : IsWorking (with_next_call v)
  pub settling : Stops (at lane.memory) (with_next_call v) (settles (with_next_call v))
  pub stopped : IsStoppedIn at lane (with_next_call v) (cancels_outside lane.last) Cancel None

-- what a cancel that answers so leaves of a lane that was at rest alone: Spent leaves no trace
abbrev pub CancelEnds : {M T : Type 0} → (M → View → Type 0) → Lane M → View → Result T Refusal → Type 0
CancelEnds at lane v (Ok done) = HasCanceledOutside at lane v
CancelEnds at lane v (Err refusal.Stopped) = IsStoppedCanceling at lane v
CancelEnds at lane v (Err refusal.Spent) = IsSpent at lane v
CancelEnds at lane v (Err r) = ⊥

-- why a cancel fails, of a lane that had stopped or not: one that had not may stop in it
abbrev pub IsCancelCause : Bool → Refusal → Type 0
IsCancelCause stopped refusal.Stopped = Unit {0}
IsCancelCause stopped refusal.Spent = stopped ≡ false
IsCancelCause stopped r = ⊥

-- ---- the end of a lane's work

-- all was made persistent, and each block that was reserved given back
pub record HasFinished {M : Type 0} (at : M → View → Type 0) (lane : Lane M) (v : View) : Type 0 where
  pub ready : Ready v (finishes v)
  pub seen : IsSeenAs at lane (after_all v (finishes v))
  pub drained : (after_all v (finishes v)).changes ≡ []

-- the lane stopped as it made all persistent: no block was given back
pub record IsStoppedFinishing {M : Type 0} (at : M → View → Type 0) (lane : Lane M) (v : View) : Type 0 where
  pub ready : Ready v (finishes v)
  pub settling : Stops (at lane.memory) v (settles v)
  pub stops : Stops (at lane.memory) v (finishes v)
