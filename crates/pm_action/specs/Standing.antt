-- A LANE STANDS after each call on what is pending, as laws: one that stood with a history does so after
-- a call that did this, and its history is turned by what it returned. And where a lane's work has
-- ended, its entries have their facts, and are those of its history.
use Rattle.std.specs.Prelude.{◌≡◌, ℕ, zero, Bool, false, None, Some, Result, Ok, Err}
use Rattle.pm_objects.specs.declared.calls.Operation.{Operation}
use Rattle.pm_objects.specs.declared.calls.Operation.TheVariants.{Cancel, Publish, SetValue}
use Rattle.pm_objects.specs.declared.history.Value.TheVariants.{Refused}
use Rattle.pm_objects.specs.declared.ids.Oid.{Oid}
use Rattle.pm_objects.specs.declared.refusal.Refusal.{Refusal}
use Rattle.pm_objects.specs.declared.refusal.Refusal.TheVariants as refusal
use Rattle.pm_view.specs.View.{View}
use Rattle.pm_world.specs.declared.lane.Lane.{Lane}
use Rattle.pm_call.specs.Did.{work_refusal}
use Rattle.pm_call.specs.Histories.{LaneHistory, calls_ended, no_value, told_last, told_more, turned, turned_alone, unless}
use Rattle.pm_crash.specs.Fates.{EndsOpen}
use Rattle.pm_call.specs.Unwritten.{WritesNoRecord, is_adding_in}
use Rattle.pm_call.specs.Standing.{IsLaneStopped, StandsWith, StoppedWith, TurnsHistory}
use Rattle.pm_action.specs.Actions.{Asked}
use Rattle.pm_action.specs.Calls.{ByLevel}
use Rattle.pm_action.specs.Inside.{Cancelled}
use Rattle.pm_action.specs.Outside.{AskedOutside, Finished}
use Rattle.pm_action.specs.Publications.{PublishedOutside}

-- outside a transaction, and inside one
abbrev pub if_outside : Bool → ℕ → LaneHistory → LaneHistory → LaneHistory
if_outside false zero outside inside = outside
if_outside stopped level outside inside = inside

-- an action inside a transaction is told with its refusal too, and the transaction goes on
abbrev pub turned_action : Operation → Result (Unit {0}) Refusal → LaneHistory → LaneHistory
turned_action op (Ok done) h = told_more op None h
turned_action op (Err r) h = told_more op (Some (Refused r)) h

-- outside it ends its call, done or refused; or no number is left for one
abbrev pub turned_ended : {M : Type 0} → Lane M → Operation → Result (Unit {0}) Refusal
    → LaneHistory → LaneHistory
turned_ended lane op (Ok done) h = told_last lane.last op None h
turned_ended lane op (Err r) h = told_last lane.last op (Some (Refused r)) h

abbrev pub turned_asked : {M : Type 0} → Lane M → Operation → Result (Unit {0}) Refusal
    → LaneHistory → LaneHistory
turned_asked lane op (Err refusal.Spent) h = h
turned_asked lane op result h = turned_ended lane op result h

abbrev pub SetsTurn : {M : Type 0} → (M → View → Type 0) → Type 0
SetsTurn at = (id : Oid) (off value : ℕ) (result : Result (Unit {0}) Refusal)
    → TurnsHistory at (λ old new. ByLevel old
    (AskedOutside at old new (SetValue id off value) result)
    (Asked at old new (SetValue id off value) result))
    (λ old new h. if_outside old.stopped old.level
    (turned_asked new (SetValue id off value) result h)
    (unless (work_refusal old) (turned_action (SetValue id off value) result h) h))

abbrev pub CancelsTurn : {M : Type 0} → (M → View → Type 0) → Type 0
CancelsTurn at = (result : Result (Unit {0}) Refusal)
    → TurnsHistory at (λ old new. ByLevel old (AskedOutside at old new Cancel result)
    (Cancelled at old new result))
    (λ old new h. if_outside old.stopped old.level (turned_asked new Cancel result h)
    (unless (work_refusal old) (turned new Cancel no_value result h) h))

-- a publish outside is refused inside, and tells nothing then
abbrev pub PublishesTurn : {M : Type 0} → (M → View → Type 0) → Type 0
PublishesTurn at = (result : Result (Unit {0}) Refusal)
    → TurnsHistory at (λ old new. PublishedOutside at old new result)
    (λ old new h. if_outside old.stopped old.level (turned_alone new Publish result h) h)

-- a lane that finished makes no call any more, as one that stopped
abbrev pub FinishedLanesHaveFacts : {M : Type 0} → (M → View → Type 0) → Type 0
FinishedLanesHaveFacts {M} at = (result : Result (Unit {0}) Refusal) (old new : Lane M)
    (h : LaneHistory) → StandsWith at old h → (old.stopped ≡ false → old.level ≡ 0)
    → Finished at old new result
    → (x : IsLaneStopped at new) × (calls_ended x.view ≡ h.done) × (x.view.fixed.lane ≡ h.lane)
    × EndsOpen old.drawn x.view × (is_adding_in h.within ≡ false → WritesNoRecord x.view)
    × StoppedWith x.view h
