-- THE LOCKS OF A LANE'S LIST, and that they stand through what a call does with locks.
use Rattle.std.specs.Prelude.{◌≡◌, ℕ, ◌/◌, ◌<◌, Bool, true, false, List, [], ◌∷◌, ◌++◌, take}
use Rattle.std.specs.List.{AllByRecursion}
use Rattle.pm_layout.specs.declared.shape.Shape.{Shape}
use Rattle.pm_layout.specs.Chunks.{words_of}
use Rattle.pm_objects.specs.declared.calls.Want.{Want}
use Rattle.pm_view.specs.Log.{Idle, is_early}
use Rattle.pm_view.specs.View.{View}
use Rattle.pm_view.specs.Views.{after_all}
use Rattle.pm_world.specs.declared.lane.HeldLock.{HeldLock}
use Rattle.pm_lock.specs.Acquiring.{MayWant}
use Rattle.pm_lock.specs.Holding.{AreOnce, IsHeldAs, IsTaken, MayGiveAll}
use Rattle.pm_view.specs.Places.{Block}
use Rattle.pm_world.specs.Causes.{times_missed}
use Rattle.pm_world.specs.InWorld.{IsSound}
use Rattle.pm_lock.specs.Objects.{HasLooked, StandsAt}
use Rattle.pm_lock.specs.Raising.{MayRaiseAll, raised, raises}
use Rattle.pm_lock.specs.Steps.{takes, tries}
use Rattle.pm_lock.specs.Wants.{wanted}

-- they are of lines of the pool, no two of one line, and the lane holds each
pub record HoldsEach (v : View) (locks : List HeldLock) : Type 0 where
  pub once : AreOnce locks
  pub inside : AllByRecursion (λ (l : HeldLock). l.line < words_of v.fixed.shape / 8) locks
  pub held : AllByRecursion (IsHeldAs v.claims) locks

-- so are those with the locks that were wanted and taken
abbrev pub HeldGrow : Type 0
HeldGrow = (v u : View) (sh : Shape) (pool : ℕ) (locks : List HeldLock) (new : List ℕ)
    (wants : List Want)
    → MayWant v sh locks new → HoldsEach v locks → IsTaken v (wanted sh pool locks new wants) u
    → HoldsEach u (locks ++ wanted sh pool locks new wants)

-- and with those before one that was refused at its try
abbrev pub HeldBefore : Type 0
HeldBefore = (v : View) (sh : Shape) (pool : ℕ) (locks : List HeldLock) (new : List ℕ)
    (wants : List Want) (k line : ℕ) (write : Bool)
    → MayWant v sh locks new → HoldsEach v locks
    → HoldsEach (after_all v (tries (take k (wanted sh pool locks new wants)) ++ takes line write false ∷ []))
    (locks ++ take k (wanted sh pool locks new wants))

-- through looks
abbrev pub HeldStay : Type 0
HeldStay = (v w : View) (locks : List HeldLock) → HasLooked v w → HoldsEach v locks
    → HoldsEach w locks

-- and those that are raised, which may be
abbrev pub HeldMayBeRaised : Type 0
HeldMayBeRaised = (v : View) (locks : List HeldLock) → is_early v.log.phase ≡ true
    → HoldsEach v locks → MayRaiseAll v locks

abbrev pub HeldAreRaised : Type 0
HeldAreRaised = (v : View) (writes : ℕ → Bool) (locks : List HeldLock) → HoldsEach v locks
    → HoldsEach (after_all v (raises writes locks)) (raised writes locks)

-- once the call is over they may be given back
abbrev pub HeldMayBeGiven : Type 0
HeldMayBeGiven = (v : View) (locks : List HeldLock) → v.log.phase ≡ Idle → HoldsEach v locks
    → MayGiveAll v locks

-- WHAT IS KNOWN OF BLOCKS stays as locks are taken and raised: those that were found are sound, objects
-- that stand do, and no block is missed
pub record KeepsBlocks (v w : View) : Type 0 where
  pub sound : IsSound v → IsSound w
  pub stands : (line : ℕ) → StandsAt v line → StandsAt w line
  pub missed : (B : Block) → times_missed w.fixed.shape B w.claims
      ≡ times_missed v.fixed.shape B v.claims

abbrev pub TakenKeepBlocks : Type 0
TakenKeepBlocks = (v w : View) (locks : List HeldLock) → IsTaken v locks w → KeepsBlocks v w

abbrev pub RaisedKeepBlocks : Type 0
RaisedKeepBlocks = (v : View) (writes : ℕ → Bool) (locks : List HeldLock)
    → KeepsBlocks v (after_all v (raises writes locks))
