-- WHAT AN OPERATION THAT LOCKS OBJECTS DID to a lane at work: a lock, or a begin of an inner level,
-- by cases of what it returns.
use Rattle.std.specs.Prelude.{◌⊎◌, ℕ, ◌+◌, ◌<◌, ◌≤◌, true, List, Some, Result, Ok, Err}
use Rattle.pm_objects.specs.declared.calls.Operation.{Operation}
use Rattle.pm_objects.specs.declared.calls.Operation.TheVariants.{Begin}
use Rattle.pm_objects.specs.declared.calls.Want.{Want}
use Rattle.pm_objects.specs.declared.history.TxErr.TheVariants as error
use Rattle.pm_objects.specs.declared.history.Value.TheVariants.{Refused}
use Rattle.pm_objects.specs.declared.refusal.Refusal.{Refusal}
use Rattle.pm_objects.specs.declared.refusal.Refusal.TheVariants as refusal
use Rattle.pm_view.specs.View.{View}
use Rattle.pm_world.specs.LaneFields.{Standing, Works, moved}
use Rattle.pm_world.specs.declared.lane.Lane.{Lane}
use Rattle.pm_call.specs.At.{At}
use Rattle.pm_call.specs.Did.{Cut, IsUnrefused}
use Rattle.pm_call.specs.GivenUp.{GivesUpFor, WasGivenUp, with_locks}
use Rattle.pm_call.specs.Locking.{MayLock, locked_with}
use Rattle.pm_call.specs.Plans.{gives_up}
use Rattle.pm_call.specs.WantedTaken.{RefusesWants, TakesByTries}

-- DONE: the locks are taken, each at one try, the operation is told, and the lane is at work at this
-- level. REFUSED: each lock was tried once at most, and the transaction is given up with the locks
-- that the lane holds by then, or the lane stopped on the way
abbrev pub LockedAs : {M : Type 0} → (M → View → Type 0) → Lane M → Standing → Operation
    → List Want → ℕ → Result (Unit {0}) Refusal → Type 0
LockedAs at lane s op wants level (Ok done) = (x : View) × TakesByTries s wants x
    × MayLock s op wants level × IsUnrefused (moved s x) op
    × Works at lane (locked_with s op wants level x) × At (locked_with s op wants level x)
LockedAs at lane s op wants level (Err refusal.Stopped) = (r : Refusal)
    × (why : RefusesWants s wants r) × (n : ℕ)
    × Cut at lane (with_locks why.all (moved s why.view)) (gives_up op (Some (Refused r)) n) true
LockedAs at lane s op wants level (Err r) = (why : RefusesWants s wants r)
    × WasGivenUp at lane (with_locks why.all (moved s why.view)) op (Some (Refused r))
    (error.Refused r)

unfoldable pub LockedWanted : {M : Type 0} → (M → View → Type 0) → Lane M → Lane M → Operation
    → List Want → ℕ → Result (Unit {0}) Refusal → Type 0
LockedWanted at old new op wants level result = (s : Standing) → Works at old s → At s
    → LockedAs at new s op wants level result

-- A BEGIN INSIDE A TRANSACTION: at level 64 it is refused for that alone; below it the locks are
-- taken, and the next level is at work
abbrev pub DeepAs : {M : Type 0} → (M → View → Type 0) → Lane M → Standing → List Want
    → Result (Unit {0}) Refusal → Type 0
DeepAs at lane s wants (Ok done) = ⊥
DeepAs at lane s wants (Err r) = GivesUpFor at lane (Begin wants) refusal.Deep r s

unfoldable pub BeganInner : {M : Type 0} → (M → View → Type 0) → Lane M → Lane M → List Want
    → Result (Unit {0}) Refusal → Type 0
BeganInner at old new wants result = (s : Standing) → Works at old s → At s
    → ((64 ≤ s.level) × DeepAs at new s wants result)
    ⊎ ((s.level < 64) × LockedAs at new s (Begin wants) wants (s.level + 1) result)
