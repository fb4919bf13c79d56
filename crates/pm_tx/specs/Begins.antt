-- WHAT A BEGIN DID to its lane: where no transaction is open the outermost level begins, and at work
-- an inner one. Refused for its stage it changes nothing.
use Rattle.std.specs.Prelude.{◌≡◌, List, Option, Some, None, Result, Err}
use Rattle.pm_objects.specs.declared.calls.Want.{Want}
use Rattle.pm_objects.specs.declared.refusal.Refusal.{Refusal}
use Rattle.pm_objects.specs.declared.refusal.Refusal.TheVariants as refusal
use Rattle.pm_view.specs.View.{View}
use Rattle.pm_world.specs.declared.lane.Lane.{Lane}
use Rattle.pm_call.specs.Did.{work_refusal}
use Rattle.pm_call.specs.LockOps.{BeganInner}
use Rattle.pm_call.specs.Opening.{OutermostBegun}

abbrev pub LevelBegunSo : {M : Type 0} → Option Refusal → (M → View → Type 0) → Lane M → Lane M
    → List Want → Result (Unit {0}) Refusal → Type 0
LevelBegunSo None at old new wants result = BeganInner at old new wants result
LevelBegunSo (Some refusal.NoTx) at old new wants result = OutermostBegun at old new wants result
LevelBegunSo (Some r) at old new wants result = (result ≡ Err r) × (new ≡ old)

unfoldable pub LevelBegun : {M : Type 0} → (M → View → Type 0) → Lane M → Lane M → List Want
    → Result (Unit {0}) Refusal → Type 0
LevelBegun at old new wants result = LevelBegunSo (work_refusal old) at old new wants result
