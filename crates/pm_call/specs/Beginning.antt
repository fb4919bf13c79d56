-- AN OUTERMOST BEGIN IS REFUSED, as laws: by what the lane tried and looked at the plain model's
-- first refusal is found; and such a begin is an entry of the history, which ends its call.
use Rattle.std.specs.Prelude.{◌≡◌, ℕ, true, false, List, None, Some}
use Rattle.pm_model.specs.Items.{is_among}
use Rattle.pm_model.specs.Refusals.{Seen, first_of}
use Rattle.pm_model.specs.declared.stage.Stage.TheVariants as stage
use Rattle.pm_objects.specs.declared.calls.Operation.TheVariants.{Begin}
use Rattle.pm_objects.specs.declared.calls.Want.{Want}
use Rattle.pm_objects.specs.declared.history.TxErr.TheVariants as error
use Rattle.pm_objects.specs.declared.history.Value.TheVariants.{Refused}
use Rattle.pm_objects.specs.declared.refusal.Refusal.{Refusal}
use Rattle.pm_view.specs.View.{View}
use Rattle.pm_world.specs.LaneFields.{Standing, moved}
use Rattle.pm_world.specs.declared.lane.HeldLock.{HeldLock}
use Rattle.pm_world.specs.declared.lane.Lane.{Lane}
use Rattle.pm_crash.specs.Looked.{refusal_by}
use Rattle.pm_crash.specs.Missed.{FoundNone}
use Rattle.pm_call.specs.Did.{next}
use Rattle.pm_call.specs.GivenUp.{LeavesOver, WasGivenUp, with_locks}
use Rattle.pm_call.specs.LockRefusals.{TriedLocks, locking_tests}
use Rattle.pm_call.specs.Locking.{IsOpened}
use Rattle.pm_call.specs.Plans.{gives_up}
use Rattle.pm_call.specs.Stages.{IsPastAt, unlisted}

-- THE MODEL'S FIRST REFUSAL of such a begin is that of the first test that applies
abbrev pub BeginRefusals : Type 0
BeginRefusals = (s : Standing) (wants : List Want) (seen : Seen) → IsOpened s
    → seen.spent ≡ false → seen.busy ≡ false
    → refusal_by seen s.view None (Begin wants) ≡ first_of (locking_tests seen s wants)

-- A REFUSED ONE ends its call, whatever locks the lane got: it is told, and takes its number. No
-- object was found where one was seen to be missing
abbrev pub RefusedBeginsEnd : Type 0
RefusedBeginsEnd = (s : Standing) (wants : List Want) (all : List HeldLock) (x : View)
    (seen : Seen) (r : Refusal) (n : ℕ)
    → IsOpened s → TriedLocks s wants all x → seen.spent ≡ false → seen.busy ≡ false
    → first_of (locking_tests seen s wants) ≡ Some r
    → ((off : ℕ) → is_among seen.missing off ≡ true → FoundNone x off)
    → LeavesOver (with_locks all (moved s x)) (Begin wants) (Some (Refused r)) n

-- SO ITS LEVEL, the first, may end
abbrev pub RefusedBeginsArePast : {M : Type 0} → (M → View → Type 0) → Type 0
RefusedBeginsArePast {M} at = (lane : Lane M) (s : Standing) (wants : List Want) (r : Refusal)
    → s.level ≡ 1
    → (up : WasGivenUp at lane s (Begin wants) (Some (Refused r)) (error.Refused r))
    → IsPastAt at lane (unlisted (next s (gives_up (Begin wants) (Some (Refused r)) up.number)))
    stage.OnAbort (error.Refused r)
