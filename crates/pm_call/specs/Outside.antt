-- A CALL OUTSIDE A TRANSACTION, as laws: that a word be set is asked for, or what is pending is
-- cancelled; or a publish is refused. It is told with its reply, and takes its number.
-- pmemobj_set_value(3), pmemobj_cancel(3), pmemobj_publish(3).
use Rattle.std.specs.Prelude.{◌≡◌, ◌⊎◌, ℕ, suc, ◌^◌, ◌<◌, true, false, List, [], Option, Some, MatchOption}
use Rattle.pm_objects.specs.declared.calls.Operation.{Operation}
use Rattle.pm_objects.specs.declared.calls.Operation.TheVariants.{SetValue, Publish, Cancel}
use Rattle.pm_objects.specs.declared.history.Value.{Value}
use Rattle.pm_objects.specs.declared.history.Value.TheVariants.{Refused}
use Rattle.pm_objects.specs.declared.calls.Want.{Want}
use Rattle.pm_objects.specs.declared.refusal.Refusal.{Refusal}
use Rattle.pm_model.specs.Inside.{IsRefused}
use Rattle.pm_model.specs.Items.{is_among}
use Rattle.pm_model.specs.Refusals.{Seen}
use Rattle.pm_view.specs.View.{View}
use Rattle.pm_world.specs.LaneFields.{Standing, last_number, moved}
use Rattle.pm_world.specs.declared.lane.HeldLock.{HeldLock}
use Rattle.pm_crash.specs.Missed.{FoundNone}
use Rattle.pm_crash.specs.SimOutside.{IsActionDone, refusal_alone}
use Rattle.pm_crash.specs.SimPublish.{IsLateRefusal, early_refusal}
use Rattle.pm_plan.specs.Plans.{Ready}
use Rattle.pm_call.specs.Did.{IsOver, next, unseen}
use Rattle.pm_call.specs.GivenUp.{with_locks}
use Rattle.pm_call.specs.LockRefusals.{TriedLocks}
use Rattle.pm_call.specs.Locking.{CanLockWith, IsOpened}
use Rattle.pm_call.specs.Plans.{ends_call}
use Rattle.pm_call.specs.Stages.{IsBetween}

-- an action on words alone
abbrev pub IsWordAction : Operation → Type 0
IsWordAction (SetValue id off value) = value < 2 ^ 64
IsWordAction Cancel = Unit {0}
IsWordAction op = ⊥

-- its reply is the model's, by what is pending as its call begins: it is done, or has its first
-- refusal
abbrev pub RepliesAlone : Standing → Operation → Option Value → Type 0
RepliesAlone s op reply =
    MatchOption (refusal_alone unseen s.view op) (IsActionDone s.view op reply)
    (λ r. IsRefused r reply)

-- it is an entry of the history, and the lane is between two calls then
pub record EndsAction (s : Standing) (op : Operation) (reply : Option Value) (n : ℕ) : Type 0 where
  pub ready : Ready s.view (ends_call op reply n s.view)
  pub between : IsBetween (next s (ends_call op reply n))
  pub number : last_number (next s (ends_call op reply n)).view.entries ≡ suc n

-- THE LAW: in a call that is open such an action may be told, whatever number the call takes
abbrev pub ActionsMayBeTold : Type 0
ActionsMayBeTold = (s : Standing) (op : Operation) (reply : Option Value) (n : ℕ) → IsOpened s
    → IsWordAction op → RepliesAlone s op reply → EndsAction s op reply n

-- ---- A PUBLISH THAT IS REFUSED changes nothing, and leaves what is pending

-- its call is open, with nothing told or done in it, and these are all locks that its lane holds
pub record IsOpenWith (s : Standing) (all : List HeldLock) : Type 0 where
  pub can : CanLockWith s all
  pub call : s.view.call ≡ []
  pub records : s.view.log.records ≡ []
  pub drained : s.view.changes ≡ []

-- so it is once its lane tried to take the locks that it wants
abbrev pub TriedLocksLeaveOpen : Type 0
TriedLocksLeaveOpen = (s : Standing) (wants : List Want) (all : List HeldLock) (x : View)
    → IsOpened s → TriedLocks s wants all x → IsOpenWith (moved s x) all

-- why it is refused: an id has no place, or under a lock no object was found; or some test applies of
-- those of the objects' sizes, all of which were looked at
abbrev pub IsPublishRefusal : View → Seen → Refusal → Type 0
IsPublishRefusal v seen r = (early_refusal seen v ≡ Some r) ⊎ IsLateRefusal v seen r

-- it is an entry of the history, and its call is over; its locks are held still
pub record EndsRefused (s : Standing) (op : Operation) (reply : Option Value) (n : ℕ) : Type 0 where
  pub ready : Ready s.view (ends_call op reply n s.view)
  pub over : IsOver (next s (ends_call op reply n))
  pub number : last_number (next s (ends_call op reply n)).view.entries ≡ suc n
  pub pending : (next s (ends_call op reply n)).view.actions ≡ s.view.actions

-- THE LAW: so it may be told, whatever number the call takes, where no object was found at the
-- offsets at which one was seen to be missing
abbrev pub RefusedPublicationsEnd : Type 0
RefusedPublicationsEnd = (s : Standing) (all : List HeldLock) (seen : Seen) (r : Refusal) (n : ℕ)
    → IsOpenWith s all → seen.spent ≡ false → IsPublishRefusal s.view seen r
    → ((off : ℕ) → is_among seen.missing off ≡ true → FoundNone s.view off)
    → EndsRefused (with_locks all s) Publish (Some (Refused r)) n
