-- WHAT A PUBLISH OUTSIDE A TRANSACTION DID to its lane, by cases of what it answers: a call opens, the
-- lane waits for the locks of the objects of the pending words, looks at each word, and sets them by
-- one log; then the locks are given back. pmemobj_publish(3).
use Rattle.std.specs.Prelude.{◌≡◌, ◌⊎◌, ℕ, zero, suc, ◌*◌, ◌+◌, Bool, true, false, List, Some, Result, Ok, Err}
use Rattle.pm_model.specs.Items.{is_among}
use Rattle.pm_model.specs.Refusals.{Seen}
use Rattle.pm_objects.specs.declared.refusal.Refusal.{Refusal}
use Rattle.pm_objects.specs.declared.refusal.Refusal.TheVariants as refusal
use Rattle.pm_view.specs.View.{View}
use Rattle.pm_world.specs.LaneFields.{Rests, Standing, moved}
use Rattle.pm_world.specs.declared.lane.HeldLock.{HeldLock}
use Rattle.pm_world.specs.declared.lane.Lane.{Lane}
use Rattle.pm_crash.specs.SimPublish.{early_refusal}
use Rattle.pm_call.specs.Between.{MayOpen}
use Rattle.pm_call.specs.Did.{After}
use Rattle.pm_call.specs.GivenUp.{with_locks}
use Rattle.pm_call.specs.LockRefusals.{TriedLocks}
use Rattle.pm_call.specs.Locking.{IsOpened, TakesLocks, locks_with}
use Rattle.pm_call.specs.Opening.{AfterOpening, NoneIsLeft, WaitWasStopped}
use Rattle.pm_call.specs.PublicationParts.{PublishWasRefused, WordsSetAs}
use Rattle.pm_call.specs.Publications.{FindsPast, wants_to_set}
use Rattle.pm_call.specs.WantedTaken.{IsMissed}

-- for its locks: an id has no place, or under a lock no object was found
pub record RefusedForLocks {M : Type 0} (at : M → View → Type 0) (lane : Lane M) (s : Standing)
    (r : Refusal) : Type 0 where
  pub all : List HeldLock
  pub view : View
  pub tried : TriedLocks s (wants_to_set s) all view
  pub seen : Seen
  pub first : early_refusal seen view ≡ Some r
  pub missing : (off : ℕ) → is_among seen.missing off ≡ true
      → (line : ℕ) × (off ≡ 64 * line + 64) × IsMissed s.view line view
  pub refused : PublishWasRefused at lane (with_locks all (moved s view)) r

-- ---- THE PUBLISH

-- once the locks were taken, and words were looked at under them
pub record AfterLocks (s : Standing) (P : Standing → Type 0) : Type 0 where
  pub view : View
  pub takes : TakesLocks s (wants_to_set s) view
  pub holds : After (record s { view = view; locks = locks_with s (wants_to_set s) }) P

-- refused under its locks: a word passes its object's end
abbrev pub IsPastRefused : {M : Type 0} → (M → View → Type 0) → Lane M → Standing → Type 0
IsPastRefused at lane t = FindsPast t × PublishWasRefused at lane t refusal.OutOfRange

-- in the call that was opened
abbrev pub PublishedOpenAs : {M : Type 0} → (M → View → Type 0) → Lane M → Result (Unit {0}) Refusal
    → Standing → Type 0
PublishedOpenAs at lane (Ok done) s = AfterLocks s (WordsSetAs at lane (Ok done))
PublishedOpenAs at lane (Err refusal.Stopped) s = WaitWasStopped at lane s (wants_to_set s)
    ⊎ AfterLocks s (WordsSetAs at lane (Err refusal.Stopped))
PublishedOpenAs at lane (Err refusal.NoObject) s = RefusedForLocks at lane s refusal.NoObject
PublishedOpenAs at lane (Err refusal.OutOfRange) s = AfterLocks s (IsPastRefused at lane)
PublishedOpenAs at lane (Err r) s = ⊥

-- or none was opened
abbrev pub PublishedAloneAs : {M : Type 0} → (M → View → Type 0) → Lane M
    → Result (Unit {0}) Refusal → Standing → Type 0
PublishedAloneAs at lane (Err refusal.Spent) s = NoneIsLeft at lane s
PublishedAloneAs at lane result s = AfterOpening s (PublishedOpenAs at lane result)

-- a lane that stopped, or that is in a transaction, does nothing
abbrev pub PublishedBy : {M : Type 0} → Bool → ℕ → (M → View → Type 0) → Lane M → Lane M
    → Result (Unit {0}) Refusal → Type 0
PublishedBy true level at old new result = (result ≡ Err refusal.Stopped) × (new ≡ old)
PublishedBy false (suc n) at old new result = (result ≡ Err refusal.InTx) × (new ≡ old)
PublishedBy false zero at old new result = (s : Standing) → Rests at old s → MayOpen s
    → PublishedAloneAs at new result s

unfoldable pub PublishedOutside : {M : Type 0} → (M → View → Type 0) → Lane M → Lane M
    → Result (Unit {0}) Refusal → Type 0
PublishedOutside at old new result = PublishedBy old.stopped old.level at old new result

-- in the call that was opened
pub record IsLaneOpen {M : Type 0} (at : M → View → Type 0) (lane : Lane M) : Type 0 where
  pub standing : Standing
  pub rests : Rests at lane standing
  pub opened : IsOpened standing

unfoldable pub PublishedOpen : {M : Type 0} → (M → View → Type 0) → Lane M → Lane M
    → Result (Unit {0}) Refusal → Type 0
PublishedOpen at old new result = (s : Standing) → Rests at old s → IsOpened s
    → PublishedOpenAs at new result s
