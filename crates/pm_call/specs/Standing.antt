-- A LANE STANDS, as its fields say, with a history: what each call asks of its lane, and leaves.
use Rattle.std.specs.Prelude.{◌≡◌, ◌⊎◌, ℕ, suc, true, false, Contains, List, [], Option, None, Result}
use Rattle.pm_objects.specs.declared.calls.Operation.{Operation}
use Rattle.pm_objects.specs.declared.history.TxErr.{TxErr}
use Rattle.pm_objects.specs.declared.history.TxErr.TheVariants as error
use Rattle.pm_objects.specs.declared.history.Value.{Value}
use Rattle.pm_objects.specs.declared.refusal.Refusal.{Refusal}
use Rattle.pm_view.specs.Counts.{IsAtStop}
use Rattle.pm_view.specs.Steps.Step.{StopSeen}
use Rattle.pm_view.specs.View.{View}
use Rattle.pm_world.specs.declared.lane.Lane.{Lane}
use Rattle.pm_crash.specs.Facts.{HaveFacts}
use Rattle.pm_crash.specs.Fates.{EndsOpen}
use Rattle.pm_call.specs.Between.{IsLaneBetween}
use Rattle.pm_call.specs.Did.{IsAt, work_refusal}
use Rattle.pm_call.specs.Histories.{LaneHistory, calls_ended, history_of, last_ended, operations_in, turned, unless}
use Rattle.pm_call.specs.Planned.{CameBy, CameUpTo, Planned, operations_of}
use Rattle.pm_call.specs.Stages.{IsLanePast, end_refusal}
use Rattle.pm_call.specs.Unwritten.{WritesNoRecord, is_adding_in}

-- A STOP IS DUE: the lane made as many counted calls as its stop number says, or it found the stop
-- word set as it waited for a lock
abbrev pub IsStopDue : View → Type 0
IsStopDue v = IsAtStop v ⊎ Contains v.seen (StopSeen true)

-- A LANE STOPPED, and makes no call any more: its memory is seen as a view whose entries have their
-- facts, so that the history up to here is the plain model's; and where it says that it stopped, a
-- stop was due
pub record IsLaneStopped {M : Type 0} (at : M → View → Type 0) (lane : Lane M) : Type 0 where
  pub view : View
  pub seen : at lane.memory view
  pub facts : HaveFacts view
  pub due : lane.stopped ≡ true → IsStopDue view

-- THE VIEW HAS THIS HISTORY: by what it recorded, and by the plans of its operations, by which it came
pub record HasHistory (v : View) (h : LaneHistory) : Type 0 where
  pub is : history_of v ≡ h
  pub plans : List Planned
  pub came : CameBy v plans
  pub operations : operations_of plans ≡ operations_in h

-- a lane stopped with it: perhaps in the latest of these plans
pub record StoppedWith (v : View) (h : LaneHistory) : Type 0 where
  pub plans : List Planned
  pub came : CameUpTo v plans
  pub operations : operations_of plans ≡ operations_in h

-- past the work of a level the call is over, but where an inner level was committed
abbrev pub IsOverFor : ℕ → TxErr → LaneHistory → Type 0
IsOverFor (suc (suc n)) error.None h = Unit {0}
IsOverFor level e h = h.call ≡ []

-- A LANE STANDS WITH THIS HISTORY: it stopped, or it is between two calls, at work, or past the work
-- of a level, as its fields say; and this is what it recorded
pub record StandsWith {M : Type 0} (at : M → View → Type 0) (lane : Lane M) (h : LaneHistory)
    : Type 0 where
  pub work : work_refusal lane ≡ None → (w : IsAt at lane) × HasHistory w.standing.view h
  pub past : end_refusal lane ≡ None → (p : IsLanePast at lane)
      × HasHistory p.standing.view h × IsOverFor p.standing.level p.error h
  pub between : lane.stopped ≡ false → lane.level ≡ 0 → (b : IsLaneBetween at lane)
      × HasHistory b.standing.view h × (h.call ≡ [])
  pub stopped : lane.stopped ≡ true → (x : IsLaneStopped at lane)
      × (calls_ended x.view ≡ h.done) × (x.view.fixed.lane ≡ h.lane) × EndsOpen lane.drawn x.view
      × (is_adding_in h.within ≡ false → WritesNoRecord x.view) × StoppedWith x.view h
  -- the lane's field tells its last number
  pub last : lane.stopped ≡ false → lane.last ≡ last_ended h.done

-- with some history; and what its calls may ask of it, which follows from that
pub record Stands {M : Type 0} (at : M → View → Type 0) (lane : Lane M) : Type 0 where
  pub history : LaneHistory
  pub stands : StandsWith at lane history
  pub work : work_refusal lane ≡ None → IsAt at lane
  pub past : end_refusal lane ≡ None → IsLanePast at lane
  pub between : lane.stopped ≡ false → lane.level ≡ 0 → IsLaneBetween at lane
  pub stopped : lane.stopped ≡ true → IsLaneStopped at lane

-- A LAW of a call: a lane that stands with a history does so, with the history turned, after a call
-- that did this, whatever it returned
abbrev pub TurnsHistory : {M : Type 0} → (M → View → Type 0) → (Lane M → Lane M → Type 0)
    → (Lane M → Lane M → LaneHistory → LaneHistory) → Type 0
TurnsHistory {M} at Says turn = (old new : Lane M) (h : LaneHistory) → StandsWith at old h
    → Says old new → StandsWith at new (turn old new h)

-- the same of an operation of a transaction, which its stage may refuse
abbrev pub TurnsAtWork : {M T : Type 0} → (M → View → Type 0) → (Lane M → Lane M → Type 0)
    → Operation → (T → Option Value) → Result T Refusal → Type 0
TurnsAtWork at Says op reply result = TurnsHistory at Says
    (λ old new h. unless (work_refusal old) (turned new op reply result h) h)
