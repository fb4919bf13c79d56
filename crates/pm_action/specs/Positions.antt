-- WHERE EACH CALL ON WHAT IS PENDING LEAVES ITS LANE in its transactions, as laws, by what it
-- returned.
use Rattle.std.specs.Prelude.{◌≡◌, ℕ, false, Result}
use Rattle.pm_objects.specs.declared.calls.Operation.TheVariants.{Cancel, SetValue}
use Rattle.pm_objects.specs.declared.ids.Oid.{Oid}
use Rattle.pm_objects.specs.declared.refusal.Refusal.{Refusal}
use Rattle.pm_view.specs.View.{View}
use Rattle.pm_world.specs.declared.lane.Lane.{Lane}
use Rattle.pm_call.specs.Histories.{LaneHistory}
use Rattle.pm_call.specs.Positions.{MovesAtWork, MovesPosition, moved_by, position_of, stopped_by}
use Rattle.pm_call.specs.Standing.{StandsWith}
use Rattle.pm_action.specs.Actions.{Asked}
use Rattle.pm_action.specs.Calls.{ByLevel}
use Rattle.pm_action.specs.Inside.{Cancelled}
use Rattle.pm_action.specs.Outside.{AskedOutside, Finished}
use Rattle.pm_action.specs.Publications.{PublishedOutside}

-- a word to be set, inside and outside: done or refused, its lane stays where it is
abbrev pub SetsStay : {M : Type 0} → (M → View → Type 0) → Type 0
SetsStay at = (id : Oid) (off value : ℕ) (result : Result (Unit {0}) Refusal)
    → MovesPosition at (λ old new. ByLevel old
    (AskedOutside at old new (SetValue id off value) result)
    (Asked at old new (SetValue id off value) result))
    (λ old p. p)

-- a cancel moves a lane at work alone: outside none is
abbrev pub CancelsMove : {M : Type 0} → (M → View → Type 0) → Type 0
CancelsMove at = (result : Result (Unit {0}) Refusal)
    → MovesAtWork at (λ old new. ByLevel old (AskedOutside at old new Cancel result)
    (Cancelled at old new result)) (moved_by result)

-- a publish outside: a lane that does not stop is between two calls again, or where it was
abbrev pub PublishesStay : {M : Type 0} → (M → View → Type 0) → Type 0
PublishesStay at = (result : Result (Unit {0}) Refusal)
    → MovesPosition at (λ old new. PublishedOutside at old new result)
    (λ old p. stopped_by result p)

-- the end of a lane's work, from between two calls or after its stop
abbrev pub FinishesStay : {M : Type 0} → (M → View → Type 0) → Type 0
FinishesStay {M} at = (result : Result (Unit {0}) Refusal) (old new : Lane M) (h : LaneHistory)
    → StandsWith at old h → (old.stopped ≡ false → old.level ≡ 0) → Finished at old new result
    → position_of new ≡ position_of old
