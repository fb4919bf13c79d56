-- Which locks a lane may take and give back, by its view alone, and what that leaves of the view.
use Rattle.std.specs.Prelude.{◌≡◌, ◌≢◌, ◌<◌, true, false, List, [], ◌∷◌}
use Rattle.std.specs.List.{AllByRecursion}
use Rattle.pm_view.specs.Claims.{Claim, Took, Gave, locked, reads}
use Rattle.pm_view.specs.View.{View}
use Rattle.pm_world.specs.Lawful.{MayGive, MayTake}
use Rattle.pm_world.specs.declared.lane.HeldLock.{HeldLock}

-- the locks are of rising lines
abbrev pub Rises : List HeldLock → Type 0
Rises [] = Unit {0}
Rises (l ∷ locks) = AllByRecursion (λ (k : HeldLock). l.line < k.line) locks × Rises locks

-- no two are of one line
abbrev pub AreOnce : List HeldLock → Type 0
AreOnce [] = Unit {0}
AreOnce (l ∷ locks) = AllByRecursion (λ (k : HeldLock). l.line ≢ k.line) locks × AreOnce locks

-- the lane may take each of them, in rising place
pub record MayTakeAll (v : View) (locks : List HeldLock) : Type 0 where
  pub rises : Rises locks
  pub each : AllByRecursion (λ (l : HeldLock). MayTake v l.line) locks

-- the claims once they are taken, and once they are given back
abbrev pub took : List HeldLock → List Claim → List Claim
took [] t = t
took (l ∷ locks) t = took locks (Took l.line l.write ∷ t)

abbrev pub gave : List HeldLock → List Claim → List Claim
gave [] t = t
gave (l ∷ locks) t = gave locks (Gave l.line ∷ t)

-- the lane may give each of them back
pub record MayGiveAll (v : View) (locks : List HeldLock) : Type 0 where
  pub once : AreOnce locks
  pub each : AllByRecursion (λ (l : HeldLock). MayGive v l.line) locks

-- THE LOCKS ARE HELD: the view is as it was, but for these claims and what the tries told
abbrev pub IsTaken : View → List HeldLock → View → Type 0
IsTaken v locks w = w ≡ record v { claims = took locks v.claims; seen = w.seen }

-- THEY ARE GIVEN BACK
abbrev pub IsGiven : View → List HeldLock → View → Type 0
IsGiven v locks w = w ≡ record v { claims = gave locks v.claims }

-- a lock is held as a claim says
abbrev pub IsHeldAs : List Claim → HeldLock → Type 0
IsHeldAs t l = (l.write ≡ true → locked t l.line ≡ true) × (l.write ≡ false → reads t l.line ≡ true)
