-- WHAT THE BEGIN OF AN OUTERMOST LEVEL DID to its lane, by cases of what it answers: it opens a
-- call, waits for its locks, and looks under each for its object. pmemobj_tx_begin(3).
use Rattle.std.specs.Prelude.{◌≡◌, ◌⊎◌, ℕ, ◌+◌, ◌*◌, ◌<◌, ◌≤◌, true, false, List, ◌++◌, length, take, Some, Result, Ok, Err}
use Rattle.pm_layout.specs.Areas.{greatest_generation}
use Rattle.pm_model.specs.Items.{is_among}
use Rattle.pm_model.specs.Refusals.{Seen, first_of}
use Rattle.pm_objects.specs.declared.calls.Operation.TheVariants.{Begin}
use Rattle.pm_objects.specs.declared.calls.Want.{Want}
use Rattle.pm_objects.specs.declared.history.TxErr.TheVariants as error
use Rattle.pm_objects.specs.declared.history.Value.TheVariants.{Refused}
use Rattle.pm_objects.specs.declared.refusal.Refusal.{Refusal}
use Rattle.pm_objects.specs.declared.refusal.Refusal.TheVariants as refusal
use Rattle.pm_view.specs.Founds.{Found}
use Rattle.pm_view.specs.Steps.{Step}
use Rattle.pm_view.specs.View.{View}
use Rattle.pm_view.specs.Views.{after_all}
use Rattle.pm_world.specs.LaneFields.{Rests, Standing, Works, at_rest, fields_of, moved}
use Rattle.pm_world.specs.declared.lane.HeldLock.{HeldLock}
use Rattle.pm_world.specs.declared.lane.Lane.{Lane}
use Rattle.pm_lock.specs.Locking.{lock_at}
use Rattle.pm_lock.specs.Steps.{AreWaits, refusals, stops, takes}
use Rattle.pm_lock.specs.Wants.{has_unplaced}
use Rattle.pm_call.specs.Between.{MayOpen, saw_number}
use Rattle.pm_call.specs.GivenUp.{WasGivenUp, with_locks}
use Rattle.pm_call.specs.LockRefusals.{TriedLocks, locking_tests}
use Rattle.pm_call.specs.Locking.{IsOpened, LeadsLocks, TakesLocks, locked_with, to_take}
use Rattle.pm_call.specs.Stages.{at_level}
use Rattle.pm_call.specs.WantedTaken.{IsMissed}

-- ---- A CALL OPENS

-- NONE IS LEFT: the lane's generation is the greatest, and nothing was done; or as many numbers
-- were drawn as there are, and the lane looked at that alone
abbrev pub NoneIsLeft : {M : Type 0} → (M → View → Type 0) → Lane M → Standing → Type 0
NoneIsLeft at lane s =
    ((greatest_generation s.view.fixed.shape ≤ s.view.log.generation) × Rests at lane s)
    ⊎ ((n : ℕ) × (greatest_generation s.view.fixed.shape ≤ n) × Rests at lane (saw_number s n))

-- the call is open, with nothing told in it
pub record WasOpened {M : Type 0} (at : M → View → Type 0) (lane : Lane M) (s : Standing)
    : Type 0 where
  pub number : ℕ
  pub rests : Rests at lane (saw_number s number)
  pub opened : IsOpened (saw_number s number)

abbrev pub OpenedAs : {M : Type 0} → (M → View → Type 0) → Lane M → Result (Unit {0}) Refusal
    → Standing → Type 0
OpenedAs at lane (Ok done) s = WasOpened at lane s
OpenedAs at lane (Err refusal.Spent) s = NoneIsLeft at lane s
OpenedAs at lane (Err r) s = ⊥

unfoldable pub CallOpened : {M : Type 0} → (M → View → Type 0) → Lane M → Lane M
    → Result (Unit {0}) Refusal → Type 0
CallOpened at old new result = (s : Standing) → Rests at old s → MayOpen s
    → OpenedAs at new result s

-- ---- WHAT A CALL THAT IS OPEN CAME TO

-- IT BEGAN: the lane took its locks, told the begin, and is at work
pub record WasBegun {M : Type 0} (at : M → View → Type 0) (lane : Lane M) (s : Standing)
    (wants : List Want) : Type 0 where
  pub view : View
  pub takes : TakesLocks s wants view
  pub leads : LeadsLocks s (Begin wants) wants 1 view
  pub works : Works at lane (locked_with s (Begin wants) wants 1 view)

-- IT STOPPED: the first so many locks were got, the next was waited for up to the stop word, and
-- the lane says that it stopped
pub record WaitWasStopped {M : Type 0} (at : M → View → Type 0) (lane : Lane M) (s : Standing)
    (wants : List Want) : Type 0 where
  pub few : length s.locks + length (to_take s wants) ≤ 64
  pub placed : has_unplaced s.view.fixed.shape s.view.fixed.pool wants ≡ false
  pub count : ℕ
  pub low : count < length (to_take s wants)
  pub steps : List Step
  pub waits : AreWaits (take count (to_take s wants)) steps
  pub refused : ℕ
  pub memory : at lane.memory (after_all s.view (steps ++ stops refused
      (lock_at (to_take s wants) count).line (lock_at (to_take s wants) count).write))
  -- it was another lane's
  pub found : Found
      (after_all (after_all s.view steps) (refusals refused
      (lock_at (to_take s wants) count).line (lock_at (to_take s wants) count).write))
      (takes (lock_at (to_take s wants) count).line (lock_at (to_take s wants) count).write false)
  pub fields : fields_of lane
      ≡ record (at_rest (with_locks (s.locks ++ take count (to_take s wants)) s)) { stopped = true }

-- IT WAS REFUSED for its locks: they are too many, an object's id has no form of one, or under a
-- lock no object was found. It is told so and has its number, at level 1; what it took it holds
pub record BeginWasRefused {M : Type 0} (at : M → View → Type 0) (lane : Lane M) (s : Standing)
    (wants : List Want) (r : Refusal) : Type 0 where
  pub all : List HeldLock
  pub view : View
  pub tried : TriedLocks s wants all view
  pub seen : Seen
  pub unspent : seen.spent ≡ false
  pub unbusy : seen.busy ≡ false
  pub first : first_of (locking_tests seen s wants) ≡ Some r
  pub missing : (off : ℕ) → is_among seen.missing off ≡ true
      → (line : ℕ) × (off ≡ 64 * line + 64) × IsMissed s.view line view
  pub ended : WasGivenUp at lane (at_level 1 (with_locks all (moved s view))) (Begin wants)
      (Some (Refused r)) (error.Refused r)

-- THE BEGIN, from between two calls
abbrev pub BegunAs : {M : Type 0} → (M → View → Type 0) → Lane M → List Want
    → Result (Unit {0}) Refusal → Standing → Type 0
BegunAs at lane wants (Ok done) s = WasBegun at lane s wants
BegunAs at lane wants (Err refusal.Stopped) s = WaitWasStopped at lane s wants
BegunAs at lane wants (Err r) s = BeginWasRefused at lane s wants r

-- once the call was opened
pub record AfterOpening (s : Standing) (P : Standing → Type 0) : Type 0 where
  pub number : ℕ
  pub opened : IsOpened (saw_number s number)
  pub holds : P (saw_number s number)

abbrev pub OutermostBegunAs : {M : Type 0} → (M → View → Type 0) → Lane M → List Want
    → Result (Unit {0}) Refusal → Standing → Type 0
OutermostBegunAs at lane wants (Err refusal.Spent) s = NoneIsLeft at lane s
OutermostBegunAs at lane wants result s = AfterOpening s (BegunAs at lane wants result)

unfoldable pub OutermostBegun : {M : Type 0} → (M → View → Type 0) → Lane M → Lane M → List Want
    → Result (Unit {0}) Refusal → Type 0
OutermostBegun at old new wants result = (s : Standing) → Rests at old s → MayOpen s
    → OutermostBegunAs at new wants result s
