-- WHERE A LANE IS in its transactions, by its fields; the form of a law that says where a call leaves
-- it; and what it tells of which calls are refused.
use Rattle.std.specs.Prelude.{◌≡◌, ℕ, suc, Bool, true, false, Option, Some, None, Result, Ok, Err}
use Rattle.pm_model.specs.declared.stage.Stage.{Stage}
use Rattle.pm_model.specs.declared.stage.Stage.TheVariants as stage
use Rattle.pm_objects.specs.declared.history.TxErr.{TxErr}
use Rattle.pm_objects.specs.declared.history.TxErr.TheVariants as error
use Rattle.pm_objects.specs.declared.refusal.Refusal.{Refusal}
use Rattle.pm_objects.specs.declared.refusal.Refusal.TheVariants as refusal
use Rattle.pm_view.specs.View.{View}
use Rattle.pm_world.specs.declared.lane.Lane.{Lane}
use Rattle.pm_call.specs.Did.{work_refusal}
use Rattle.pm_call.specs.Histories.{LaneHistory}
use Rattle.pm_call.specs.Stages.{end_refusal}
use Rattle.pm_call.specs.Standing.{StandsWith}

-- the fields of a lane that its transactions move: whether it stopped, the level, 0 where none is
-- open, the stage and the error
pub record Position : Type 0 where
  pub stopped : Bool
  pub level : ℕ
  pub stage : Stage
  pub error : TxErr

abbrev pub position_of : {M : Type 0} → Lane M → Position
position_of lane = record {
  stopped = lane.stopped;
  level = lane.level;
  stage = lane.stage;
  error = lane.error;
}

-- ---- POSITIONS

-- between two calls
abbrev pub resting : Position
resting = record { stopped = false; level = 0; stage = stage.None; error = error.None }

-- at work at this level
abbrev pub working : ℕ → Position
working level = record { stopped = false; level = level; stage = stage.Work; error = error.None }

-- this level was committed
abbrev pub committed_at : ℕ → Position
committed_at level =
    record { stopped = false; level = level; stage = stage.OnCommit; error = error.None }

-- the transaction was aborted, for this error, at this level
abbrev pub aborted_at : TxErr → ℕ → Position
aborted_at e level = record { stopped = false; level = level; stage = stage.OnAbort; error = e }

-- the lane came to its stop there
abbrev pub at_stop : Position → Position
at_stop p = record p { stopped = true }

-- ---- WHAT A RESULT MAKES OF A POSITION

-- of a call that stays there unless the lane stops
abbrev pub stopped_by : {T : Type 0} → Result T Refusal → Position → Position
stopped_by (Err refusal.Stopped) p = at_stop p
stopped_by result p = p

-- of an operation at work: it is done, the lane stopped, or the transaction is aborted
abbrev pub moved_by : {T : Type 0} → Result T Refusal → Position → Position
moved_by (Ok x) p = p
moved_by (Err refusal.Stopped) p = at_stop p
moved_by (Err r) p = record p { stage = stage.OnAbort; error = error.Refused r }

-- a call that its stage refuses changes nothing
abbrev pub unless_refused : Option Refusal → Position → Position → Position
unless_refused (Some r) next p = p
unless_refused None next p = next

-- ---- THE LAWS

-- A LAW of a call: where it leaves a lane that stands with a history
abbrev pub MovesPosition : {M : Type 0} → (M → View → Type 0) → (Lane M → Lane M → Type 0)
    → (Lane M → Position → Position) → Type 0
MovesPosition {M} at Says to = (old new : Lane M) (h : LaneHistory) → StandsWith at old h
    → Says old new → position_of new ≡ to old (position_of old)

-- the same of a call of a transaction at work
abbrev pub MovesAtWork : {M : Type 0} → (M → View → Type 0) → (Lane M → Lane M → Type 0)
    → (Position → Position) → Type 0
MovesAtWork at Says to =
    MovesPosition at Says (λ old p. unless_refused (work_refusal old) (to p) p)

-- ---- WHAT A POSITION TELLS of which calls are refused

-- at work no operation is refused for its stage
abbrev pub WorkingLanesMayWork : {M : Type 0} → (M → View → Type 0) → Type 0
WorkingLanesMayWork {M} at = (lane : Lane M) (n : ℕ) → position_of lane ≡ working (suc n)
    → work_refusal lane ≡ None

-- between two calls none is open, so that the outermost level may begin
abbrev pub RestingLanesMayBegin : {M : Type 0} → (M → View → Type 0) → Type 0
RestingLanesMayBegin {M} at = (lane : Lane M) → position_of lane ≡ resting
    → (work_refusal lane ≡ Some refusal.NoTx) × (lane.stopped ≡ false) × (lane.level ≡ 0)

-- past its work a level may end
abbrev pub CommittedLanesMayEnd : {M : Type 0} → (M → View → Type 0) → Type 0
CommittedLanesMayEnd {M} at = (lane : Lane M) (n : ℕ) → position_of lane ≡ committed_at (suc n)
    → end_refusal lane ≡ None

abbrev pub AbortedLanesMayEnd : {M : Type 0} → (M → View → Type 0) → Type 0
AbortedLanesMayEnd {M} at = (lane : Lane M) (e : TxErr) (n : ℕ)
    → position_of lane ≡ aborted_at e (suc n) → end_refusal lane ≡ None

-- after its stop each call is refused for that
abbrev pub StoppedLanesAreRefused : {M : Type 0} → (M → View → Type 0) → Type 0
StoppedLanesAreRefused {M} at = (lane : Lane M) (p : Position) → position_of lane ≡ at_stop p
    → (work_refusal lane ≡ Some refusal.Stopped) × (end_refusal lane ≡ Some refusal.Stopped)
