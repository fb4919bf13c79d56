-- WHAT LOCKING OBJECTS DOES to a lane: by cases of what it answers, for each view that the lane's
-- memory may be seen as.
use Rattle.std.specs.Prelude.{◌≡◌, ◌⊎◌, ℕ, ◌+◌, ◌<◌, ◌≤◌, Bool, true, false, List, [], ◌∷◌, ◌++◌, length, take, Result, Ok, Err}
use Rattle.std.specs.List.{AllByRecursion}
use Rattle.pm_layout.specs.declared.shape.Shape.{Shape}
use Rattle.pm_objects.specs.declared.calls.Want.{Want}
use Rattle.pm_objects.specs.declared.refusal.Refusal.{Refusal}
use Rattle.pm_objects.specs.declared.refusal.Refusal.TheVariants as refusal
use Rattle.pm_memory.specs.declared.lane_mem.Stopped.{Stopped}
use Rattle.pm_view.specs.Claims.{holds, making}
use Rattle.pm_view.specs.Log.{is_early}
use Rattle.pm_view.specs.Steps.{Step}
use Rattle.pm_view.specs.View.{View}
use Rattle.pm_view.specs.Views.{after_all}
use Rattle.pm_world.specs.declared.lane.HeldLock.{HeldLock}
use Rattle.pm_world.specs.declared.lane.Lane.{Lane}
use Rattle.pm_lock.specs.Holding.{IsTaken, MayTakeAll}
use Rattle.pm_lock.specs.Locking.{AllLockedAs, AllTriedAs, HasGrown, lock_at}
use Rattle.pm_lock.specs.Objects.{CanLook, HasLooked, IsOfWorld, MissesAt, StandsAt, ToldNoRun, finds}
use Rattle.pm_lock.specs.Steps.{AreWaits, tries}
use Rattle.pm_lock.specs.Wants.{has_unplaced, is_listed, wanted}

-- ---- THE OBJECTS UNDER SOME LOCKS, one after another

-- the looks under them, whatever each finds
unfoldable pub AreFinds : Shape → List HeldLock → List Step → Type 0
AreFinds sh [] steps = steps ≡ []
AreFinds sh (l ∷ locks) steps = (d : ℕ) × (b : ℕ) × (rest : List Step)
    × (steps ≡ finds sh l.line d b ++ rest) × AreFinds sh locks rest

-- the lane may look under each
abbrev pub CanLookAll : View → Shape → List HeldLock → Type 0
CanLookAll v sh locks = AllByRecursion (λ (l : HeldLock). CanLook v sh l.line) locks

-- EACH HAS ITS OBJECT; the view is one of a world then, or none was looked under
pub record FindsAll (at : View → Type 0) (v : View) (sh : Shape)
    (locks : List HeldLock) : Type 0 where
  pub steps : List Step
  pub looks : AreFinds sh locks steps
  pub memory : at (after_all v steps)
  pub stays : HasLooked v (after_all v steps)
  pub objects : AllByRecursion (λ (l : HeldLock). StandsAt (after_all v steps) l.line) locks
  pub world : IsOfWorld (after_all v steps) ⊎ (locks ≡ [])

-- THE FIRST SO MANY HAVE, and the next has none
pub record FindsNone (at : View → Type 0) (v : View) (sh : Shape)
    (locks : List HeldLock) : Type 0 where
  pub before : ℕ
  pub low : before < length locks
  pub steps : List Step
  pub looks : AreFinds sh (take (before + 1) locks) steps
  pub memory : at (after_all v steps)
  pub stays : HasLooked v (after_all v steps)
  pub misses : MissesAt v (lock_at locks before).line (after_all v steps)
      ⊎ ToldNoRun (after_all v steps) (lock_at locks before).line
  pub world : IsOfWorld (after_all v steps)

abbrev pub FoundAs : (View → Type 0) → View → Shape → List HeldLock → Bool → Type 0
FoundAs at v sh locks true = FindsAll at v sh locks
FoundAs at v sh locks false = FindsNone at v sh locks

unfoldable pub FoundAll : {M : Type 0} → (M → View → Type 0) → Shape → List HeldLock → M → M
    → Bool → Type 0
FoundAll at sh locks old new all = (v : View) → at old v → CanLookAll v sh locks
    → FoundAs (at new) v sh locks all

-- ---- THE OBJECTS THAT A CALL WANTS

-- a lane of this view may lock: its call has no number yet, it makes no run, and each line that it
-- holds is that of one of these locks or of a new object
pub record MayWant (v : View) (sh : Shape) (locks : List HeldLock) (new : List ℕ) : Type 0 where
  pub shape : v.fixed.shape ≡ sh
  pub area : v.fixed.lane < sh.lanes
  pub early : is_early v.log.phase ≡ true
  pub unmaking : (c : ℕ) → making sh v.claims c ≡ false
  pub listed : (line : ℕ) → holds v.claims line ≡ true → is_listed locks new line ≡ true

-- SO IT MAY TAKE each of the locks that are wanted, and look under each once they are taken
pub record MayLockWanted (v : View) (sh : Shape) (plan : List HeldLock) : Type 0 where
  pub takes : MayTakeAll v plan
  pub looks : (w : View) → IsTaken v plan w → CanLookAll w sh plan

abbrev pub WantedMayBeLocked : Type 0
WantedMayBeLocked = (v : View) (sh : Shape) (pool : ℕ) (locks : List HeldLock) (new : List ℕ)
    (wants : List Want)
    → MayWant v sh locks new → MayLockWanted v sh (wanted sh pool locks new wants)

-- the lane's memory may be seen so
pub record CanAcquire {M : Type 0} (at : M → View → Type 0) (lane : Lane M) (new : List ℕ)
    (v : View) : Type 0 where
  pub memory : at lane.memory v
  pub may : MayWant v lane.shape lane.locks.items new

-- the locks that the lane is to take
abbrev pub to_take : {M : Type 0} → Lane M → List ℕ → List Want → List HeldLock
to_take lane new wants = wanted lane.shape lane.pool lane.locks.items new wants

abbrev pub lacks_place : {M : Type 0} → Lane M → List Want → Bool
lacks_place lane wants = has_unplaced lane.shape lane.pool wants

-- REFUSED before any lock is tried: there would be more than 64; or else some id has not the form of
-- an object's
abbrev pub RefusedFull : {M : Type 0} → List HeldLock → Lane M → Lane M → Type 0
RefusedFull plan old new = (64 < length old.locks.items + length plan) × (new ≡ old)

abbrev pub RefusedUnplaced : {M : Type 0} → List HeldLock → List Want → Lane M → Lane M → Type 0
RefusedUnplaced plan wants old new = (length old.locks.items + length plan ≤ 64)
    × (lacks_place old wants ≡ true) × (new ≡ old)

-- NOT REFUSED SO: there are at most 64, and each id has a place
pub record ArePlanned {M : Type 0} (plan : List HeldLock) (wants : List Want) (old : Lane M)
    : Type 0 where
  pub few : length old.locks.items + length plan ≤ 64
  pub placed : lacks_place old wants ≡ false

-- EACH IS WAITED FOR, and then looked under
abbrev pub AcquiredAs : {M : Type 0} → (M → View → Type 0) → List HeldLock → List Want → View
    → Lane M → Lane M → Result (Unit {0}) Refusal → Type 0
AcquiredAs at plan wants v old new (Ok done) = ArePlanned plan wants old
    × ((steps : List Step) × AreWaits plan steps × FindsAll (at new.memory)
    (after_all v steps) old.shape plan) × HasGrown plan old new
AcquiredAs at plan wants v old new (Err refusal.LocksFull) = RefusedFull plan old new
AcquiredAs at plan wants v old new (Err refusal.NoObject) = RefusedUnplaced plan wants old new
    ⊎ (ArePlanned plan wants old
    × ((steps : List Step) × AreWaits plan steps × FindsNone (at new.memory)
    (after_all v steps) old.shape plan) × HasGrown plan old new)
AcquiredAs at plan wants v old new (Err refusal.Stopped) = ArePlanned plan wants old
    × ((stopped : Stopped) × AllLockedAs at plan v old new (Err stopped))
AcquiredAs at plan wants v old new (Err r) = ⊥

unfoldable pub Acquired : {M : Type 0} → (M → View → Type 0) → List ℕ → List Want → Lane M
    → Lane M → Result (Unit {0}) Refusal → Type 0
Acquired at new wants old lane result = (v : View) → CanAcquire at old new v
    → AcquiredAs at (to_take old new wants) wants v old lane result

-- INSIDE A TRANSACTION each is tried once, and then looked under
abbrev pub TriedObjectsAs : {M : Type 0} → (M → View → Type 0) → List HeldLock → List Want → View
    → Lane M → Lane M → Result (Unit {0}) Refusal → Type 0
TriedObjectsAs at plan wants v old new (Ok done) = ArePlanned plan wants old
    × FindsAll (at new.memory) (after_all v (tries plan)) old.shape plan × HasGrown plan old new
TriedObjectsAs at plan wants v old new (Err refusal.LocksFull) = RefusedFull plan old new
TriedObjectsAs at plan wants v old new (Err refusal.NoObject) = RefusedUnplaced plan wants old new
    ⊎ (ArePlanned plan wants old × FindsNone (at new.memory)
    (after_all v (tries plan)) old.shape plan × HasGrown plan old new)
TriedObjectsAs at plan wants v old new (Err refusal.Busy) = ArePlanned plan wants old
    × AllTriedAs at plan v old new false
TriedObjectsAs at plan wants v old new (Err r) = ⊥

unfoldable pub TriedObjects : {M : Type 0} → (M → View → Type 0) → List ℕ → List Want → Lane M
    → Lane M → Result (Unit {0}) Refusal → Type 0
TriedObjects at new wants old lane result = (v : View) → CanAcquire at old new v
    → TriedObjectsAs at (to_take old new wants) wants v old lane result
