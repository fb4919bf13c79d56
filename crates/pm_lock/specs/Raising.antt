-- WHICH LOCKS OF A LANE'S LIST ARE RAISED from reading to writing, and what that does to the lane.
use Rattle.std.specs.Prelude.{◌≡◌, ℕ, ◌<◌, not, ◌&&◌, ◌||◌, Bool, true, false, List, [], ◌∷◌, ◌++◌, length, map, filter, take, drop}
use Rattle.std.specs.List.{AllByRecursion}
use Rattle.pm_view.specs.Steps.{Step}
use Rattle.pm_view.specs.Steps.Step.{Raise}
use Rattle.pm_view.specs.View.{View}
use Rattle.pm_view.specs.Views.{after_all}
use Rattle.pm_world.specs.Lawful.{MayRaise}
use Rattle.pm_world.specs.declared.lane.HeldLock.{HeldLock}
use Rattle.pm_world.specs.declared.lane.Lane.{Lane}
use Rattle.pm_view.specs.Claims.{Claim, Raised}
use Rattle.pm_lock.specs.Holding.{AreOnce, IsHeldAs}
use Rattle.pm_lock.specs.Locking.{RaisedAs, lock_at, lock_of}

-- a lock that is held for reading, of a line that is to be written
abbrev pub is_raised : (ℕ → Bool) → HeldLock → Bool
is_raised writes l = not l.write && writes l.line

-- the tries that raise such locks, and the locks then
abbrev pub raises : (ℕ → Bool) → List HeldLock → List Step
raises writes locks = map (λ (l : HeldLock). Raise l.line true) (filter (is_raised writes) locks)

abbrev pub raised : (ℕ → Bool) → List HeldLock → List HeldLock
raised writes locks = map (λ (l : HeldLock). lock_of l.line (l.write || writes l.line)) locks

-- the lane may raise each that it holds for reading
pub record MayRaiseAll (v : View) (locks : List HeldLock) : Type 0 where
  pub once : AreOnce locks
  pub each : AllByRecursion (λ (l : HeldLock). l.write ≡ false → MayRaise v l.line) locks

-- one lock of the list: raised, or not to be raised
abbrev pub RaisedOneAs : {M : Type 0} → (M → View → Type 0) → Bool → ℕ → View → Lane M → Lane M
    → Bool → Type 0
RaisedOneAs at true i v old new won = RaisedAs at i v old new won
RaisedOneAs at false i v old new won = (won ≡ true) × (new ≡ old)

unfoldable pub RaisedOne : {M : Type 0} → (M → View → Type 0) → (ℕ → Bool) → ℕ → Lane M → Lane M
    → Bool → Type 0
RaisedOne at writes i old new won = (v : View) → at old.memory v
    → (is_raised writes (lock_at old.locks.items i) ≡ true
    → MayRaise v (lock_at old.locks.items i).line)
    → RaisedOneAs at (is_raised writes (lock_at old.locks.items i)) i v old new won

-- ALL ARE RAISED; or the first so many, and the next was refused
abbrev pub RaisedAllAs : {M : Type 0} → (M → View → Type 0) → (ℕ → Bool) → View → Lane M → Lane M
    → Bool → Type 0
RaisedAllAs at writes v old new true = at new.memory (after_all v (raises writes old.locks.items))
    × (new ≡ record old { memory = new.memory; locks = new.locks })
    × (new.locks.items ≡ raised writes old.locks.items)
RaisedAllAs at writes v old new false = (k : ℕ) × (k < length old.locks.items)
    × (is_raised writes (lock_at old.locks.items k) ≡ true)
    × at new.memory (after_all v (raises writes (take k old.locks.items) ++ Raise (lock_at old.locks.items k).line false ∷ []))
    × (new ≡ record old { memory = new.memory; locks = new.locks })
    × (new.locks.items ≡ raised writes (take k old.locks.items) ++ drop k old.locks.items)

unfoldable pub RaisedAll : {M : Type 0} → (M → View → Type 0) → (ℕ → Bool) → Lane M → Lane M
    → Bool → Type 0
RaisedAll at writes old new won = (v : View) → at old.memory v → MayRaiseAll v old.locks.items
    → RaisedAllAs at writes v old new won

-- the claims once locks are raised
abbrev pub rose : List HeldLock → List Claim → List Claim
rose [] t = t
rose (l ∷ locks) t = rose locks (Raised l.line ∷ t)

-- THEY ARE RAISED: the view is as it was, but for these claims and what the tries told; and locks
-- that
-- were held are held so
pub record AreRaised (v : View) (writes : ℕ → Bool) (locks : List HeldLock)
    (w : View) : Type 0 where
  pub same : w ≡ record v {
    claims = rose (filter (is_raised writes) locks) v.claims;
    seen =
        w.seen;
  }
  pub held : AllByRecursion (IsHeldAs v.claims) locks → AllByRecursion (IsHeldAs w.claims)
      (raised writes locks)
