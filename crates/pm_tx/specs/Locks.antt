-- WHAT A LOCK INSIDE A TRANSACTION DID to its lane, by cases of what it returns.
use Rattle.std.specs.Prelude.{◌≡◌, List, Option, Some, None, Result, Err}
use Rattle.pm_objects.specs.declared.calls.Operation.{Operation}
use Rattle.pm_objects.specs.declared.calls.Want.{Want}
use Rattle.pm_objects.specs.declared.refusal.Refusal.{Refusal}
use Rattle.pm_view.specs.View.{View}
use Rattle.pm_world.specs.LaneFields.{Standing, Works}
use Rattle.pm_world.specs.declared.lane.Lane.{Lane}
use Rattle.pm_call.specs.At.{At}
use Rattle.pm_call.specs.Did.{work_refusal}
use Rattle.pm_call.specs.LockOps.{LockedAs}

-- A LOCK: refused for its stage it changes nothing; else it is taken at the same level, or the
-- transaction is given up
abbrev pub DidLockSo : {M : Type 0} → Option Refusal → (M → View → Type 0) → Lane M → Lane M
    → Operation → List Want → Result (Unit {0}) Refusal → Type 0
DidLockSo (Some r) at old new op wants result = (result ≡ Err r) × (new ≡ old)
DidLockSo None at old new op wants result = (s : Standing) → Works at old s → At s
    → LockedAs at new s op wants s.level result

unfoldable pub DidLock : {M : Type 0} → (M → View → Type 0) → Lane M → Lane M → Operation
    → List Want → Result (Unit {0}) Refusal → Type 0
DidLock at old new op wants result = DidLockSo (work_refusal old) at old new op wants result
