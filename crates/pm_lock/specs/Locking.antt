-- WHAT LOCKING DOES to a lane: by cases of what it answers, for each view that the lane's memory may be seen as.
use Rattle.std.specs.Prelude.{◌≡◌, ℕ, ◌<◌, Bool, true, false, List, [], ◌∷◌, ◌++◌, length, take, slice_index_or, slice_set, Result, Ok, Err}
use Rattle.pm_memory.specs.declared.lane_mem.Stopped.{Stopped}
use Rattle.pm_view.specs.Founds.{Found}
use Rattle.pm_view.specs.Steps.{Step}
use Rattle.pm_view.specs.Steps.Step.{Raise}
use Rattle.pm_view.specs.View.{View}
use Rattle.pm_view.specs.Views.{after, after_all}
use Rattle.pm_world.specs.Lawful.{MayRaise, MayTake}
use Rattle.pm_world.specs.declared.lane.HeldLock.{HeldLock}
use Rattle.pm_world.specs.declared.lane.Lane.{Lane}
use Rattle.pm_lock.specs.Steps.{AreWaits, gives, refusals, stops, takes, tries, waits}
use Rattle.pm_lock.specs.Holding.{MayGiveAll, MayTakeAll}

abbrev pub lock_of : ℕ → Bool → HeldLock
lock_of line write = record { line = line; write = write }

-- only the memory changed; and the list grew by these locks
abbrev pub HasOnlyStepped : {M : Type 0} → Lane M → Lane M → Type 0
HasOnlyStepped old new = new ≡ record old { memory = new.memory }

abbrev pub HasGrown : {M : Type 0} → List HeldLock → Lane M → Lane M → Type 0
HasGrown locks old new = (new ≡ record old { memory = new.memory; locks = new.locks }) × (new.locks.items ≡ old.locks.items ++ locks)

-- ---- one try; what it finds says that a lock is got where one lane runs

abbrev pub TriedAs : {M : Type 0} → (M → View → Type 0) → ℕ → Bool → View → Lane M → Lane M → Bool → Type 0
TriedAs at line write v old new true = at new.memory (after v (takes line write true)) × Found v (takes line write true) × HasGrown (lock_of line write ∷ []) old new
TriedAs at line write v old new false = at new.memory (after v (takes line write false)) × Found v (takes line write false) × HasOnlyStepped old new

unfoldable pub Tried : {M : Type 0} → (M → View → Type 0) → ℕ → Bool → Lane M → Lane M → Bool → Type 0
Tried at line write old new won = (v : View) → at old.memory v → MayTake v line → TriedAs at line write v old new won

-- ---- a wait: the lock is got; or it is not free, and the stop word is set

abbrev pub WaitedAs : {M : Type 0} → (M → View → Type 0) → ℕ → Bool → View → M → Result (Unit {0}) Stopped → Type 0
WaitedAs at line write v new (Ok done) = (n : ℕ) × at new (after_all v (waits n line write))
WaitedAs at line write v new (Err stopped) = (n : ℕ) × at new (after_all v (stops n line write)) × Found (after_all v (refusals n line write)) (takes line write false)

unfoldable pub Waited : {M : Type 0} → (M → View → Type 0) → ℕ → Bool → M → M → Result (Unit {0}) Stopped → Type 0
Waited at line write old new result = (v : View) → at old v → MayTake v line → WaitedAs at line write v new result

abbrev pub LockedAs : {M : Type 0} → (M → View → Type 0) → ℕ → Bool → View → Lane M → Lane M → Result (Unit {0}) Stopped → Type 0
LockedAs at line write v old new (Ok done) = ((n : ℕ) × at new.memory (after_all v (waits n line write))) × HasGrown (lock_of line write ∷ []) old new
LockedAs at line write v old new (Err stopped) = ((n : ℕ) × at new.memory (after_all v (stops n line write)) × Found (after_all v (refusals n line write)) (takes line write false)) × HasOnlyStepped old new

unfoldable pub Locked : {M : Type 0} → (M → View → Type 0) → ℕ → Bool → Lane M → Lane M → Result (Unit {0}) Stopped → Type 0
Locked at line write old new result = (v : View) → at old.memory v → MayTake v line → LockedAs at line write v old new result

-- ---- many locks, in rising place

abbrev pub no_lock : HeldLock
no_lock = record { line = 0; write = false }

abbrev pub lock_at : List HeldLock → ℕ → HeldLock
lock_at locks i = slice_index_or locks i no_lock

-- the first so many of the locks were got, and the next was waited for up to the stop word
abbrev pub AllLockedAs : {M : Type 0} → (M → View → Type 0) → List HeldLock → View → Lane M → Lane M → Result (Unit {0}) Stopped → Type 0
AllLockedAs at locks v old new (Ok done) = ((steps : List Step) × AreWaits locks steps × at new.memory (after_all v steps)) × HasGrown locks old new
AllLockedAs at locks v old new (Err stopped) = (k : ℕ) × (k < length locks)
    × ((steps : List Step) × (n : ℕ) × AreWaits (take k locks) steps × at new.memory (after_all v (steps ++ stops n (lock_at locks k).line (lock_at locks k).write))
    × Found (after_all (after_all v steps) (refusals n (lock_at locks k).line (lock_at locks k).write)) (takes (lock_at locks k).line (lock_at locks k).write false)) × HasGrown (take k locks) old new

unfoldable pub AllLocked : {M : Type 0} → (M → View → Type 0) → List HeldLock → Lane M → Lane M → Result (Unit {0}) Stopped → Type 0
AllLocked at locks old new result = (v : View) → at old.memory v → MayTakeAll v locks → AllLockedAs at locks v old new result

-- each at one try: the first so many were got, and the next was not
abbrev pub AllTriedAs : {M : Type 0} → (M → View → Type 0) → List HeldLock → View → Lane M → Lane M → Bool → Type 0
AllTriedAs at locks v old new true = at new.memory (after_all v (tries locks)) × HasGrown locks old new
AllTriedAs at locks v old new false = (k : ℕ) × (k < length locks)
    × at new.memory (after_all v (tries (take k locks) ++ takes (lock_at locks k).line (lock_at locks k).write false ∷ []))
    × Found (after_all v (tries (take k locks))) (takes (lock_at locks k).line (lock_at locks k).write false) × HasGrown (take k locks) old new

unfoldable pub AllTried : {M : Type 0} → (M → View → Type 0) → List HeldLock → Lane M → Lane M → Bool → Type 0
AllTried at locks old new won = (v : View) → at old.memory v → MayTakeAll v locks → AllTriedAs at locks v old new won

-- ---- a lock that is held for reading is raised, at one try

abbrev pub RaisedAs : {M : Type 0} → (M → View → Type 0) → ℕ → View → Lane M → Lane M → Bool → Type 0
RaisedAs at i v old new true = at new.memory (after v (Raise (lock_at old.locks.items i).line true)) × Found v (Raise (lock_at old.locks.items i).line true)
    × (new ≡ record old { memory = new.memory; locks = new.locks }) × (new.locks.items ≡ slice_set old.locks.items i (lock_of (lock_at old.locks.items i).line true))
RaisedAs at i v old new false = at new.memory (after v (Raise (lock_at old.locks.items i).line false)) × Found v (Raise (lock_at old.locks.items i).line false) × HasOnlyStepped old new

unfoldable pub Raised : {M : Type 0} → (M → View → Type 0) → ℕ → Lane M → Lane M → Bool → Type 0
Raised at i old new won = (v : View) → at old.memory v → MayRaise v (lock_at old.locks.items i).line → RaisedAs at i v old new won

-- ---- all are given back, in their order

unfoldable pub GivenBack : {M : Type 0} → (M → View → Type 0) → Lane M → Lane M → Type 0
GivenBack at old new = (v : View) → at old.memory v → MayGiveAll v old.locks.items
    → at new.memory (after_all v (gives old.locks.items)) × (new ≡ record old { memory = new.memory; locks = new.locks }) × (new.locks.items ≡ [])

-- the lane's memory may be seen so that this holds
abbrev pub Stands : {M : Type 0} → (M → View → Type 0) → Lane M → (View → Type 0) → Type 0
Stands at lane P = (v : View) × at lane.memory v × P v
