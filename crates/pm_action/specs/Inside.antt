-- WHAT A CANCEL DID to a lane whose transaction is at work, by cases of what it returns.
use Rattle.std.specs.Prelude.{◌≡◌, true, Option, None, Some, Result, Ok, Err}
use Rattle.pm_objects.specs.declared.calls.Operation.TheVariants.{Cancel}
use Rattle.pm_objects.specs.declared.refusal.Refusal.{Refusal}
use Rattle.pm_objects.specs.declared.refusal.Refusal.TheVariants as refusal
use Rattle.pm_view.specs.View.{View}
use Rattle.pm_world.specs.LaneFields.{Standing, Works}
use Rattle.pm_world.specs.declared.lane.Lane.{Lane}
use Rattle.pm_call.specs.At.{At}
use Rattle.pm_call.specs.Did.{Cut, Done, IsUnrefused, work_refusal}
use Rattle.pm_call.specs.Plans.{cancels}

-- A CANCEL: all that was undrained is persistent, none is pending, and the lane is at work; or the
-- lane stopped on the way. Its stage alone refuses it, and then it changes nothing
abbrev pub CancelledAs : {M : Type 0} → (M → View → Type 0) → Lane M → Result (Unit {0}) Refusal
    → Standing → Type 0
CancelledAs at lane (Ok done) s = Done at lane s Cancel cancels
CancelledAs at lane (Err refusal.Stopped) s = IsUnrefused s Cancel × Cut at lane s cancels true
CancelledAs at lane (Err r) s = ⊥

abbrev pub CancelledSo : {M : Type 0} → Option Refusal → (M → View → Type 0) → Lane M → Lane M
    → Result (Unit {0}) Refusal → Type 0
CancelledSo (Some r) at old new result = (result ≡ Err r) × (new ≡ old)
CancelledSo None at old new result = (s : Standing) → Works at old s → At s
    → CancelledAs at new result s

unfoldable pub Cancelled : {M : Type 0} → (M → View → Type 0) → Lane M → Lane M
    → Result (Unit {0}) Refusal → Type 0
Cancelled at old new result = CancelledSo (work_refusal old) at old new result
