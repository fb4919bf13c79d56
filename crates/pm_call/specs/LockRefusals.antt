-- WHY A LOCK, OR A BEGIN OF AN INNER LEVEL, IS REFUSED, as laws: by the lane's list of locks and
-- by what its tries and looks told, the plain model's first refusal is found; and such an
-- operation gives the transaction up.
use Rattle.std.specs.Prelude.{◌≡◌, ◌⊎◌, ℕ, ◌+◌, ◌≤◌, ◌&&◌, nat_lt, not, true, false, Contains, List, [], ◌∷◌, ◌++◌, length, take, drop, Some, None}
use Rattle.std.specs.List.{list_any}
use Rattle.pm_objects.specs.declared.calls.Operation.{Operation}
use Rattle.pm_objects.specs.declared.calls.Operation.TheVariants.{Begin}
use Rattle.pm_objects.specs.declared.calls.Want.{Want}
use Rattle.pm_objects.specs.declared.history.Value.TheVariants.{Refused}
use Rattle.pm_objects.specs.declared.refusal.Refusal.{Refusal}
use Rattle.pm_objects.specs.declared.refusal.Refusal.TheVariants as refusal
use Rattle.pm_model.specs.Items.{is_among}
use Rattle.pm_model.specs.Refusals.{Seen, Test, first_of}
use Rattle.pm_view.specs.Steps.{Step}
use Rattle.pm_view.specs.View.{View}
use Rattle.pm_view.specs.Views.{after_all}
use Rattle.pm_world.specs.LaneFields.{Standing, moved}
use Rattle.pm_world.specs.declared.lane.HeldLock.{HeldLock}
use Rattle.pm_crash.specs.Facts.{WasTried}
use Rattle.pm_crash.specs.Looked.{refusal_by}
use Rattle.pm_crash.specs.Missed.{FoundNone}
use Rattle.pm_lock.specs.Acquiring.{AreFinds}
use Rattle.pm_lock.specs.Holding.{IsTaken}
use Rattle.pm_lock.specs.Objects.{HasLooked, IsOfWorld}
use Rattle.pm_lock.specs.Raising.{AreRaised, raised}
use Rattle.pm_lock.specs.Wants.{has_unplaced}
use Rattle.pm_call.specs.At.{At, IsAtWith}
use Rattle.pm_call.specs.GivenUp.{GivesUp}
use Rattle.pm_call.specs.Held.{is_in_locks}
use Rattle.pm_call.specs.Locking.{IsLocking, to_take, to_write}
use Rattle.pm_call.specs.Quiet.{WentQuietly}

-- in their order: too many locks; an id without a place; a lock that is to be taken or raised was
-- another lane's; under one that was taken no object was found
abbrev pub locking_tests : Seen → Standing → List Want → List Test
locking_tests seen s wants =
    (refusal.LocksFull, nat_lt 64 (length s.locks + length (to_take s wants)))
    ∷ (refusal.NoObject, has_unplaced s.view.fixed.shape s.view.fixed.pool wants)
    ∷ (
      refusal.Busy,
      list_any (λ (want : Want). not (is_in_locks s.locks want.id.off want.write)) wants
          && seen.busy,
    )
    ∷ (
      refusal.NoObject,
      list_any (λ (want : Want). not (is_in_locks s.locks want.id.off false)
          && is_among seen.missing want.id.off) wants,
    )
    ∷ []

-- THE MODEL'S FIRST REFUSAL is that of the first test that applies, whatever locks the lane got
-- besides
abbrev pub LockRefusals : Type 0
LockRefusals = (s : Standing) (all : List HeldLock) (op : Operation) (wants : List Want)
    (level : ℕ) (seen : Seen)
    → IsAtWith s s.level all → IsLocking op wants s.level level
    → refusal_by seen s.view None op ≡ first_of (locking_tests seen s wants)

-- SO A REFUSED ONE gives the transaction up, where a lock that is wanted was tried if it was seen to
-- be another lane's, and no object was found where one was seen to be missing
abbrev pub RefusedLocksGiveUp : Type 0
RefusedLocksGiveUp = (s : Standing) (all : List HeldLock) (op : Operation) (wants : List Want)
    (level : ℕ) (seen : Seen) (r : Refusal)
    → IsAtWith s s.level all → IsLocking op wants s.level level
    → first_of (locking_tests seen s wants) ≡ Some r
    → (seen.busy ≡ true → WasTried wants s.view.seen)
    → ((off : ℕ) → is_among seen.missing off ≡ true → FoundNone s.view off)
    → GivesUp s op (Some (Refused r))

-- and so does a begin at the deepest level
abbrev pub DeepBeginsGiveUp : Type 0
DeepBeginsGiveUp = (s : Standing) (wants : List Want) → At s → 64 ≤ s.level
    → GivesUp s (Begin wants) (Some (Refused refusal.Deep))

-- ---- WHAT IT DID BY THEN

-- it got the first so many of the locks, and looked under the first so many, and its view is one of
-- a world then, as the last look tells, or it did not look; it raised some, or none
pub record TriedLocks (s : Standing) (wants : List Want) (all : List HeldLock) (x : View) : Type 0 where
  pub count : ℕ
  pub taken : View
  pub takes : IsTaken s.view (take count (to_take s wants)) taken
  pub told : (n : Step) → Contains s.view.seen n → Contains x.seen n
  pub under : ℕ
  pub looks : List Step
  pub finds : AreFinds s.view.fixed.shape (take under (to_take s wants)) looks
  pub stays : HasLooked taken (after_all taken looks)
  pub world : IsOfWorld (after_all taken looks) ⊎ (looks ≡ [])
  pub rose_ : ℕ
  pub raises_ : AreRaised (after_all taken looks) (to_write s wants)
      (take rose_ (s.locks ++ take count (to_take s wants))) x
  pub lists : all ≡ raised (to_write s wants) (take rose_ (s.locks ++ take count (to_take s wants)))
      ++ drop rose_ (s.locks ++ take count (to_take s wants))
  pub quiet : WentQuietly s.view x

-- THE LANE IS AT WORK STILL with the list of locks that it had, and holds these: so its transaction
-- may be given up. What it got besides is in no list of the model
abbrev pub TriedLocksLeaveWork : Type 0
TriedLocksLeaveWork = (s : Standing) (wants : List Want) (all : List HeldLock) (x : View) → At s
    → TriedLocks s wants all x → IsAtWith (moved s x) s.level all
