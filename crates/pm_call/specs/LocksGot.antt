-- WHAT pm_lock PROMISES of the locks that are wanted, as laws: it is what the laws of a lane at
-- work ask of locks that were taken, and of those that were refused.
use Rattle.std.specs.Prelude.{◌≡◌, ◌⊎◌, ℕ, Bool, false, List, [], ◌∷◌, ◌++◌, drop, take}
use Rattle.pm_objects.specs.declared.calls.Want.{Want}
use Rattle.pm_view.specs.Steps.{Step}
use Rattle.pm_view.specs.Steps.Step.{Raise}
use Rattle.pm_view.specs.View.{View}
use Rattle.pm_view.specs.Views.{after_all}
use Rattle.pm_world.specs.LaneFields.{Standing}
use Rattle.pm_world.specs.declared.lane.HeldLock.{HeldLock}
use Rattle.pm_lock.specs.Acquiring.{FindsAll, FindsNone}
use Rattle.pm_lock.specs.Raising.{raised, raises}
use Rattle.pm_lock.specs.Steps.{AreWaits, takes, tries}
use Rattle.pm_call.specs.LockRefusals.{TriedLocks}
use Rattle.pm_call.specs.Locking.{TakesLocks, to_take, to_write}

-- the steps by which locks are got: each at one try, or each is waited for
abbrev pub AreGotBy : List HeldLock → List Step → Type 0
AreGotBy locks steps = (steps ≡ tries locks) ⊎ AreWaits locks steps

-- ALL ARE GOT, and each has its object; those that are to be written are raised then
abbrev pub GotLocksAreTaken : (View → Type 0) → Type 0
GotLocksAreTaken at = (s : Standing) (wants : List Want) (steps : List Step)
    → AreGotBy (to_take s wants) steps
    → (found : FindsAll at (after_all s.view steps) s.view.fixed.shape (to_take s wants))
    → TakesLocks s wants (after_all (after_all (after_all s.view steps) found.steps)
    (raises (to_write s wants) (s.locks ++ to_take s wants)))

-- ALL ARE GOT, and one has no object
abbrev pub MissedLocksAreTried : (View → Type 0) → Type 0
MissedLocksAreTried at = (s : Standing) (wants : List Want) (steps : List Step)
    → AreGotBy (to_take s wants) steps
    → (missed : FindsNone at (after_all s.view steps) s.view.fixed.shape (to_take s wants))
    → TriedLocks s wants (s.locks ++ to_take s wants)
    (after_all (after_all s.view steps) missed.steps)

-- THE FIRST SO MANY ARE GOT, and a try is refused
abbrev pub BusyLocksAreTried : Type 0
BusyLocksAreTried = (s : Standing) (wants : List Want) (k line : ℕ) (write : Bool)
    → TriedLocks s wants (s.locks ++ take k (to_take s wants))
    (after_all s.view (tries (take k (to_take s wants)) ++ takes line write false ∷ []))

-- ALL ARE GOT and have their objects, the first so many that are to be written are raised, and a
-- raise is refused
abbrev pub RefusedRaisesAreTried : (View → Type 0) → Type 0
RefusedRaisesAreTried at = (s : Standing) (wants : List Want) (steps : List Step) (k line : ℕ)
    → AreGotBy (to_take s wants) steps
    → (found : FindsAll at (after_all s.view steps) s.view.fixed.shape (to_take s wants))
    → TriedLocks s wants
    (raised (to_write s wants) (take k (s.locks ++ to_take s wants)) ++ drop k (s.locks ++ to_take s wants))
    (after_all (after_all (after_all s.view steps) found.steps)
    (raises (to_write s wants) (take k (s.locks ++ to_take s wants)) ++ Raise line false ∷ []))
