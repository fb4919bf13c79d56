-- WHAT TAKING THE LOCKS THAT ARE WANTED DID to a lane at work: by cases of what it returns.
use Rattle.std.specs.Prelude.{◌≡◌, ◌≢◌, ◌⊎◌, ℕ, ◌+◌, ◌*◌, ◌<◌, true, false, List, [], ◌∷◌, ◌++◌, length, take, Some, Result, Ok, Err}
use Rattle.pm_objects.specs.declared.calls.Want.{Want}
use Rattle.pm_objects.specs.declared.refusal.Refusal.{Refusal}
use Rattle.pm_objects.specs.declared.refusal.Refusal.TheVariants as refusal
use Rattle.pm_model.specs.Items.{is_among}
use Rattle.pm_model.specs.Refusals.{Seen, first_of}
use Rattle.pm_view.specs.Steps.{Step}
use Rattle.pm_view.specs.Steps.Step.{Raise}
use Rattle.pm_view.specs.View.{View}
use Rattle.pm_view.specs.Views.{after_all}
use Rattle.pm_world.specs.LaneFields.{Standing, Works, moved}
use Rattle.pm_world.specs.declared.lane.HeldLock.{HeldLock}
use Rattle.pm_world.specs.declared.lane.Lane.{Lane}
use Rattle.pm_crash.specs.Facts.{WasTried}
use Rattle.pm_lock.specs.Locking.{lock_at}
use Rattle.pm_lock.specs.Objects.{MissesAt, ToldNoRun}
use Rattle.pm_lock.specs.Raising.{raises}
use Rattle.pm_lock.specs.Steps.{takes, tries}
use Rattle.pm_call.specs.At.{At}
use Rattle.pm_call.specs.LockRefusals.{TriedLocks, locking_tests}
use Rattle.pm_call.specs.Locking.{TakesLocks, locks_with, to_take, to_write}
use Rattle.pm_call.specs.WantedTried.{AreFew, IsPlaced, got_all}

-- since the one view no object was found at a line: each block that would begin there was missed,
-- or its chunk was told to be a run of blocks without lines
abbrev pub IsMissed : View → ℕ → View → Type 0
IsMissed v line w = MissesAt v line w ⊎ ToldNoRun w line

-- EACH LOCK AT ONE TRY, and all were got
pub record TakesByTries (s : Standing) (wants : List Want) (x : View) : Type 0 where
  pub takes : TakesLocks s wants x
  pub once : takes.taken ≡ got_all s wants

-- the first k of these locks were tried, each once, and none was refused; or the next was tried
-- then, once, and refused
abbrev pub IsAfterTries : View → (List HeldLock → List Step) → (HeldLock → Step) → List HeldLock
    → ℕ → View → Type 0
IsAfterTries v got refused locks k x = (x ≡ after_all v (got (take k locks)))
    ⊎ ((k < length locks)
    × (x ≡ after_all v (got (take k locks) ++ refused (lock_at locks k) ∷ [])))

-- EACH AT ONE TRY, until one is refused: the locks that are to be taken, and then the raises
pub record TriesOnce {s : Standing} {wants : List Want} {all : List HeldLock} {x : View}
    (tried : TriedLocks s wants all x) : Type 0 where
  pub locks : IsAfterTries s.view tries (λ (l : HeldLock). takes l.line l.write false)
      (to_take s wants) tried.count tried.taken
  pub raises_ : IsAfterTries (after_all tried.taken tried.looks) (raises (to_write s wants))
      (λ (l : HeldLock). Raise l.line false) (s.locks ++ take tried.count (to_take s wants))
      tried.rose_ x

-- REFUSED: the locks that the lane holds by then, each tried once, what it saw, and the first test
-- that applies. A lock that was another lane's was refused at a try; under that of an object that is
-- missing none was found
pub record RefusesWants (s : Standing) (wants : List Want) (r : Refusal) : Type 0 where
  pub view : View
  pub all : List HeldLock
  pub tried : TriedLocks s wants all view
  pub once : TriesOnce tried
  pub seen : Seen
  pub first : first_of (locking_tests seen (moved s view) wants) ≡ Some r
  pub unstopped : r ≢ refusal.Stopped
  pub busy : seen.busy ≡ true → WasTried wants view.seen
  pub missing : (off : ℕ) → is_among seen.missing off ≡ true
      → (line : ℕ) × (off ≡ 64 * line + 64) × IsMissed s.view line view

-- and the lane works with these locks
abbrev pub WantsRefused : {M : Type 0} → (M → View → Type 0) → Lane M → Standing → List Want
    → Refusal → Type 0
WantsRefused at lane s wants r = (why : RefusesWants s wants r)
    × Works at lane (record s { view = why.view; locks = why.all })

-- ALL ARE TAKEN, each at one try, and the lane works with the longer list, each lock raised that is
-- to be written
abbrev pub WantedTakenAs : {M : Type 0} → (M → View → Type 0) → Lane M → Standing → List Want
    → Result (Unit {0}) Refusal → Type 0
WantedTakenAs at lane s wants (Ok done) = AreFew s wants × IsPlaced s wants
    × ((x : View) × TakesByTries s wants x
    × Works at lane (record s { view = x; locks = locks_with s wants }))
WantedTakenAs at lane s wants (Err r) = WantsRefused at lane s wants r

unfoldable pub WantedTaken : {M : Type 0} → (M → View → Type 0) → Lane M → Lane M → List Want
    → Result (Unit {0}) Refusal → Type 0
WantedTaken at old new wants result = (s : Standing) → Works at old s → At s
    → WantedTakenAs at new s wants result
