-- WHAT THE CALL THAT ENDS A TRANSACTION DID to its lane, by cases of what it answers.
use Rattle.std.specs.Prelude.{◌≡◌, ℕ, true, Option, Some, None, Result, Ok, Err}
use Rattle.pm_model.specs.Inside.{error_for}
use Rattle.pm_objects.specs.declared.calls.Operation.TheVariants.{Abort}
use Rattle.pm_objects.specs.declared.refusal.Refusal.{Refusal}
use Rattle.pm_objects.specs.declared.refusal.Refusal.TheVariants as refusal
use Rattle.pm_view.specs.View.{View}
use Rattle.pm_world.specs.LaneFields.{Standing, Works}
use Rattle.pm_world.specs.declared.lane.Lane.{Lane}
use Rattle.pm_call.specs.At.{At}
use Rattle.pm_call.specs.Did.{Cut, work_refusal}
use Rattle.pm_call.specs.GivenUp.{WasGivenUp}
use Rattle.pm_call.specs.Plans.{gives_up}

-- AN ABORT: the transaction is given up with this error, or the lane stopped on the way
abbrev pub AbortedAs : {M : Type 0} → (M → View → Type 0) → Lane M → ℕ → Result (Unit {0}) Refusal → Standing → Type 0
AbortedAs at lane errnum (Ok done) s = WasGivenUp at lane s (Abort errnum) None (error_for errnum)
AbortedAs at lane errnum (Err refusal.Stopped) s = (n : ℕ) × Cut at lane s (gives_up (Abort errnum) None n) true
AbortedAs at lane errnum (Err r) s = ⊥

-- refused for its stage it changes nothing
abbrev pub AbortedSo : {M : Type 0} → Option Refusal → (M → View → Type 0) → Lane M → Lane M → ℕ → Result (Unit {0}) Refusal → Type 0
AbortedSo (Some r) at old new errnum result = (result ≡ Err r) × (new ≡ old)
AbortedSo None at old new errnum result = (s : Standing) → Works at old s → At s → AbortedAs at new errnum result s

unfoldable pub Aborted : {M : Type 0} → (M → View → Type 0) → Lane M → Lane M → ℕ → Result (Unit {0}) Refusal → Type 0
Aborted at old new errnum result = AbortedSo (work_refusal old) at old new errnum result
