-- A PUBLISH OUTSIDE A TRANSACTION, as laws: its lane waits for the locks of the objects of the words
-- that are pending, and looks at each word under them. The words are set together, by one log that
-- is performed once the call has its number. pmemobj_publish(3).
use Rattle.std.specs.Prelude.{◌≡◌, ℕ, suc, ◌+◌, ◌/◌, ◌^◌, ◌<◌, ◌≤◌, false, Contains, List, [], ◌∷◌, length, map, None, Some}
use Rattle.std.specs.List.{AllByRecursion}
use Rattle.pm_model.specs.Pending.{SetWord, wants_pending}
use Rattle.pm_objects.specs.declared.calls.Operation.TheVariants.{Publish}
use Rattle.pm_objects.specs.declared.calls.Want.{Want}
use Rattle.pm_objects.specs.declared.refusal.Refusal.TheVariants as refusal
use Rattle.pm_view.specs.View.{View}
use Rattle.pm_view.specs.Views.{after_all}
use Rattle.pm_world.specs.LaneFields.{Standing, last_number}
use Rattle.pm_crash.specs.Freshness.{root_told}
use Rattle.pm_crash.specs.Looked.{size_seen}
use Rattle.pm_crash.specs.SimPublish.{IsLateRefusal, LooksToPublish, publish_refusal}
use Rattle.pm_lock.specs.Steps.{gives}
use Rattle.pm_lock.specs.Wants.{has_unplaced}
use Rattle.pm_plan.specs.Plans.{Plan, Ready}
use Rattle.pm_call.specs.At.{set_entry}
use Rattle.pm_call.specs.Did.{IsOver, next, unseen}
use Rattle.pm_call.specs.GivenUp.{with_locks}
use Rattle.pm_call.specs.Held.{Looks}
use Rattle.pm_call.specs.Locking.{IsOpened, TakesLocks, locks_with, to_take}
use Rattle.pm_call.specs.Outside.{IsOpenWith}
use Rattle.pm_call.specs.Plans.{ends_call, logs_entries}
use Rattle.pm_call.specs.Publishing.{HasWord, words_pending}
use Rattle.pm_call.specs.RangeLaws.{KnowsSizeSeen}
use Rattle.pm_call.specs.Ranges.{KnowsWord}
use Rattle.pm_call.specs.Waiting.{pending_now}

-- ---- ITS LOCKS

-- the locks that it wants: of the object of each pending word, for writing
abbrev pub wants_to_set : Standing → List Want
wants_to_set s = wants_pending (pending_now s.view)

-- THE LANE HOLDS THE OBJECTS: a call was opened, the lane took the locks and found an object under
-- each, and since then it only looked at words of these objects
pub record HoldsWords (t : Standing) : Type 0 where
  pub before : Standing
  pub opened : IsOpened before
  pub placed : has_unplaced before.view.fixed.shape before.view.fixed.pool (wants_to_set before)
      ≡ false
  pub few : length before.locks + length (to_take before (wants_to_set before)) ≤ 64
  pub locked : View
  pub takes : TakesLocks before (wants_to_set before) locked
  pub looks : ℕ
  pub looked : Looks looks locked t.view
  pub since : t
      ≡ record before { view = t.view; locks = locks_with before (wants_to_set before) }

-- ---- ITS LOOKS

-- the lane has the word for writing, and knows it
pub record SeesWord (t : Standing) (a : SetWord) : Type 0 where
  pub range : HasWord t a
  pub word : KnowsWord t.view ((a.id.off + a.off) / 8)

abbrev pub SeesWords : Standing → Type 0
SeesWords t = AllByRecursion (SeesWord t) (words_pending t)

-- the model's tests let it pass, by what the lane looked at
pub record PassesTests (v : View) : Type 0 where
  pub value : ℕ
  pub looks : LooksToPublish v value
  pub none : publish_refusal unseen v (root_told value) ≡ None

-- ---- THE WORDS ARE SET

-- by one log of all words, in their order; the number alone is taken where there is none
abbrev pub publishes : List SetWord → (ℕ → ℕ) → ℕ → Plan
publishes [] found n = ends_call Publish None n
publishes (a ∷ words) found n = logs_entries Publish (map set_entry (a ∷ words)) found n

-- once it is carried out the call is over, with its number, and nothing is pending
pub record LeavesPublished (t : Standing) (found : ℕ → ℕ) (n : ℕ) : Type 0 where
  pub passes : PassesTests t.view
  pub ready : Ready t.view (publishes (words_pending t) found n t.view)
  pub over : IsOver (next t (publishes (words_pending t) found n))
  pub number : last_number (next t (publishes (words_pending t) found n)).view.entries ≡ suc n
  pub pending : (next t (publishes (words_pending t) found n)).view.actions ≡ []
  pub fixed : (next t (publishes (words_pending t) found n)).view.fixed ≡ t.view.fixed

-- THE LAW: so it may be, whatever number the call takes and whatever its steps find
abbrev pub PublicationsMayBeMade : Type 0
PublicationsMayBeMade = (t : Standing) (found : ℕ → ℕ) (n : ℕ) → HoldsWords t → SeesWords t
    → LeavesPublished t found n

-- ---- OR SOME WORD PASSES ITS OBJECT'S END

-- this one does, by the size that the lane looked at
pub record EndsPast (t : Standing) (a : SetWord) : Type 0 where
  pub size : ℕ
  pub sized : size_seen t.view a.id.off ≡ Some size
  pub small : size < 2 ^ 64
  pub past : size < a.off + 8

-- one of those that are pending does, and the lane looked at the size of each one's object
pub record FindsPast (t : Standing) : Type 0 where
  pub sizes : AllByRecursion (λ (a : SetWord). KnowsSizeSeen t a.id) (words_pending t)
  pub word : SetWord
  pub among : Contains (words_pending t) word
  pub ends : EndsPast t word

-- THE LAW: the model refuses it so; and its call is open still, with nothing told in it
pub record LeavesPast (t : Standing) : Type 0 where
  pub opens : IsOpenWith (with_locks [] t) t.locks
  pub late : IsLateRefusal t.view unseen refusal.OutOfRange

abbrev pub WordsPastTheEndAreRefused : Type 0
WordsPastTheEndAreRefused = (t : Standing) → HoldsWords t → FindsPast t → LeavesPast t

-- ---- THE LOCKS ARE GIVEN BACK
abbrev pub unlocked : Standing → Standing
unlocked s = record s { view = after_all s.view (gives s.locks); locks = [] }
