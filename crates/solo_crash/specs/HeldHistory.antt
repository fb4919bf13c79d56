-- A world's history as the plain model's: whichever of the calls in flight are left out, the others were made one whole call after another.
use Rattle.std.specs.Prelude.{◌≡◌, ◌⊎◌, ℕ, Bool, List, [], false}
use Rattle.pm_header.specs.declared.header.Header.{Header}
use Rattle.pm_objects.specs.declared.history.TxErr.{TxErr}
use Rattle.pm_objects.specs.declared.pool.PoolView.{PoolView}
use Rattle.solo_model.specs.History.{opened}
use Rattle.solo_model.specs.Names.{Replays}
use Rattle.solo_view.specs.Steps.{Step}
use Rattle.solo_view.specs.Steps.Step.{Draw}
use Rattle.solo_view.specs.View.{View}
use Rattle.solo_world.specs.History.{Entry}
use Rattle.solo_world.specs.Opening.{Opening}
use Rattle.solo_crash.specs.Draws.{KeepsDecided, kept_log, kept_words}
use Rattle.solo_crash.specs.Held.{HoldsPool}
use Rattle.solo_crash.specs.OpenCall.{IsGivenUp, IsWholeCall, MakesItsStep}
use Rattle.solo_crash.specs.Pending.{acts_of, state_after}
use Rattle.solo_crash.specs.Reserved.{IsBorneOut}
use Rattle.solo_view.specs.Views.{changes_heap}

-- the words hold what the kept calls make of a pool, one whole call after another
pub record HoldReplay (w : ℕ → ℕ) (o : Opening) (keep : ℕ → Bool) (log : List Entry) (header : Header) (pool : PoolView) : Type 0 where
  pub last : PoolView
  pub holds : HoldsPool w o.lanes o.zones header last
  pub replays : Replays (opened pool) (acts_of (kept_log keep log)) (state_after last (kept_log keep log))

-- so it is whichever calls are kept, the decided ones among them
pub record IsHeldHistory (o : Opening) (log : List Entry) (decided : ℕ → Bool) (header : Header) (pool : PoolView) : Type 0 where
  pub each : (keep : ℕ → Bool) → KeepsDecided decided keep → HoldReplay (kept_words o keep log) o keep log header pool

-- the view's call may enter a history of many lanes: it is whole, or was given up and taken back, whatever pool the words before it hold
abbrev pub IsEndedOnAny : View → Type 0
IsEndedOnAny v = IsWholeCall v ⊎ ((e : TxErr) × IsGivenUp v e × (v.log.records ≡ []) × (v.log.entries ≡ []))

-- The view's call may enter the history of a lane alone: it is so, or it is a step from each pool that may be the one before what it told of the heap, and what
-- the lane has bears that out.
abbrev pub IsEndedCall : View → Type 0
IsEndedCall v = IsWholeCall v ⊎ (((e : TxErr) × IsGivenUp v e × (v.log.records ≡ []) × (v.log.entries ≡ [])) ⊎ (MakesItsStep v × IsBorneOut v))

-- a draw is of a call that ended on any pool, and publishes no change of a block
abbrev pub DrawsOnAny : View → Step → Type 0
DrawsOnAny v (Draw n) = IsEndedOnAny v × (changes_heap v ≡ false)
DrawsOnAny v s = Unit {0}

-- a draw is of an ended call, which publishes no change of a block
abbrev pub DrawsEnded : View → Step → Type 0
DrawsEnded v (Draw n) = IsEndedCall v × (changes_heap v ≡ false)
DrawsEnded v s = Unit {0}
