-- WHAT TRYING THE LOCKS THAT ARE WANTED DID to a lane at work: by cases of what it answers.
use Rattle.std.specs.Prelude.{◌≡◌, ◌⊎◌, ℕ, ◌+◌, ◌<◌, ◌≤◌, true, false, List, [], ◌∷◌, ◌++◌, length, take, Result, Ok, Err}
use Rattle.pm_objects.specs.declared.calls.Want.{Want}
use Rattle.pm_objects.specs.declared.refusal.Refusal.{Refusal}
use Rattle.pm_objects.specs.declared.refusal.Refusal.TheVariants as refusal
use Rattle.pm_view.specs.View.{View}
use Rattle.pm_view.specs.Views.{after_all}
use Rattle.pm_world.specs.LaneFields.{Standing, Works}
use Rattle.pm_world.specs.declared.lane.HeldLock.{HeldLock}
use Rattle.pm_world.specs.declared.lane.Lane.{Lane}
use Rattle.pm_lock.specs.Acquiring.{FindsAll, FindsNone}
use Rattle.pm_lock.specs.Locking.{lock_at}
use Rattle.pm_lock.specs.Steps.{takes, tries}
use Rattle.pm_lock.specs.Wants.{has_unplaced}
use Rattle.pm_call.specs.At.{At}
use Rattle.pm_call.specs.Locking.{to_take}

-- the locks are not too many, and each id has a place, or some has none
abbrev pub AreFew : Standing → List Want → Type 0
AreFew s wants = length s.locks + length (to_take s wants) ≤ 64

abbrev pub IsPlaced : Standing → List Want → Type 0
IsPlaced s wants = has_unplaced s.view.fixed.shape s.view.fixed.pool wants ≡ false

-- the view once all are got
abbrev pub got_all : Standing → List Want → View
got_all s wants = after_all s.view (tries (to_take s wants))

-- the lane works on with this view and these locks besides
abbrev pub WorksWith : {M : Type 0} → (M → View → Type 0) → Lane M → Standing → View
    → List HeldLock → Type 0
WorksWith at lane s x more = Works at lane (record s { view = x; locks = s.locks ++ more })

-- ALL ARE GOT, and each has its object; or one has none; or the first so many are, and the next is
-- another lane's; or nothing is done
abbrev pub WantedTriedAs : {M : Type 0} → (M → View → Type 0) → Lane M → Standing → List Want
    → Result (Unit {0}) Refusal → Type 0
WantedTriedAs at lane s wants (Ok done) = AreFew s wants × IsPlaced s wants
    × ((found : FindsAll (at lane.memory) (got_all s wants) s.view.fixed.shape (to_take s wants))
    × WorksWith at lane s (after_all (got_all s wants) found.steps) (to_take s wants))
WantedTriedAs at lane s wants (Err refusal.LocksFull) =
    (64 < length s.locks + length (to_take s wants)) × Works at lane s
WantedTriedAs at lane s wants (Err refusal.NoObject) = (AreFew s wants
    × (has_unplaced s.view.fixed.shape s.view.fixed.pool wants ≡ true) × Works at lane s)
    ⊎ (AreFew s wants × IsPlaced s wants
    × ((missed : FindsNone (at lane.memory) (got_all s wants) s.view.fixed.shape (to_take s wants))
    × WorksWith at lane s (after_all (got_all s wants) missed.steps) (to_take s wants)))
WantedTriedAs at lane s wants (Err refusal.Busy) = AreFew s wants × IsPlaced s wants
    × ((k : ℕ) × (k < length (to_take s wants)) × WorksWith at lane s
    (after_all s.view (tries (take k (to_take s wants)) ++ takes (lock_at (to_take s wants) k).line
    (lock_at (to_take s wants) k).write false ∷ [])) (take k (to_take s wants)))
WantedTriedAs at lane s wants (Err r) = ⊥

unfoldable pub WantedTried : {M : Type 0} → (M → View → Type 0) → Lane M → Lane M → List Want
    → Result (Unit {0}) Refusal → Type 0
WantedTried at old new wants result = (s : Standing) → Works at old s → At s
    → WantedTriedAs at new s wants result
