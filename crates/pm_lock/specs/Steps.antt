-- THE STEPS OF LOCKS: tries, waits, and what is given back.
use Rattle.std.specs.Prelude.{◌≡◌, ℕ, zero, suc, Bool, true, false, List, [], ◌∷◌, ◌++◌, map}
use Rattle.pm_view.specs.Steps.{Step}
use Rattle.pm_view.specs.Steps.Step.{TakeRead, TakeWrite, Give, StopSeen}
use Rattle.pm_world.specs.declared.lane.HeldLock.{HeldLock}

-- a line's lock is tried once, for writing or for reading; whether it was got
abbrev pub takes : ℕ → Bool → Bool → Step
takes line true won = TakeWrite line won
takes line false won = TakeRead line won

-- so many tries that fail, each with the stop word not set after it
unfoldable pub refusals : ℕ → ℕ → Bool → List Step
refusals zero line write = []
refusals (suc n) line write = takes line write false ∷ StopSeen false ∷ refusals n line write

-- A WAIT: after so many tries that fail the lock is got; or the stop word is set after one more
unfoldable pub waits : ℕ → ℕ → Bool → List Step
waits n line write = refusals n line write ++ takes line write true ∷ []

unfoldable pub stops : ℕ → ℕ → Bool → List Step
stops n line write = refusals n line write ++ takes line write false ∷ StopSeen true ∷ []

-- the locks are waited for, one after another
unfoldable pub AreWaits : List HeldLock → List Step → Type 0
AreWaits [] steps = steps ≡ []
AreWaits (l ∷ locks) steps = (n : ℕ) × (rest : List Step) × (steps ≡ waits n l.line l.write ++ rest) × AreWaits locks rest

-- each is got at one try
abbrev pub tries : List HeldLock → List Step
tries locks = map (λ (l : HeldLock). takes l.line l.write true) locks

-- each is given back, in their order
abbrev pub gives : List HeldLock → List Step
gives locks = map (λ (l : HeldLock). Give l.line) locks
