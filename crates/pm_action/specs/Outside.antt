-- WHAT AN ACTION OUTSIDE A TRANSACTION DID to its lane, by cases of what it answers: a call opens,
-- the action is told with its reply, and the call takes its number. pmemobj_set_value(3),
-- pmemobj_cancel(3).
use Rattle.std.specs.Prelude.{◌≡◌, ℕ, Bool, true, false, [], Option, None, Some, Result, Ok, Err}
use Rattle.pm_objects.specs.declared.calls.Operation.{Operation}
use Rattle.pm_objects.specs.declared.history.Value.{Value}
use Rattle.pm_objects.specs.declared.history.Value.TheVariants.{Refused}
use Rattle.pm_objects.specs.declared.refusal.Refusal.{Refusal}
use Rattle.pm_objects.specs.declared.refusal.Refusal.TheVariants as refusal
use Rattle.pm_view.specs.View.{View}
use Rattle.pm_world.specs.LaneFields.{IsSeenAs, Rests, Standing, at_rest}
use Rattle.pm_world.specs.declared.lane.Lane.{Lane}
use Rattle.pm_crash.specs.SimOutside.{refusal_alone}
use Rattle.pm_plan.specs.Plans.{Ready}
use Rattle.pm_call.specs.Between.{MayOpen}
use Rattle.pm_call.specs.Did.{next, unseen}
use Rattle.pm_call.specs.Locking.{IsOpened}
use Rattle.pm_call.specs.Opening.{AfterOpening, NoneIsLeft}
use Rattle.pm_call.specs.Outside.{IsWordAction, RepliesAlone}
use Rattle.pm_call.specs.Plans.{ends_call}
use Rattle.pm_call.specs.Stages.{IsBetween}

-- ---- THE CALL ENDS

-- the lane's call is open, and the action may be told in it with this reply
pub record IsLaneOpened {M : Type 0} (at : M → View → Type 0) (lane : Lane M) (op : Operation)
    (reply : Option Value) : Type 0 where
  pub standing : Standing
  pub rests : Rests at lane standing
  pub opened : IsOpened standing
  pub word : IsWordAction op
  pub replies : RepliesAlone standing op reply

-- it is told and has its number, and the lane is between two calls
pub record WasAsked {M : Type 0} (at : M → View → Type 0) (lane : Lane M) (s : Standing)
    (op : Operation) (reply : Option Value) : Type 0 where
  pub number : ℕ
  pub ready : Ready s.view (ends_call op reply number s.view)
  pub rests : Rests at lane (next s (ends_call op reply number))
  pub between : IsBetween (next s (ends_call op reply number))

unfoldable pub ActionEnded : {M : Type 0} → (M → View → Type 0) → Lane M → Lane M → Operation
    → Option Value → Type 0
ActionEnded at old new op reply = (s : Standing) → Rests at old s → IsOpened s → IsWordAction op
    → RepliesAlone s op reply → WasAsked at new s op reply

-- ---- THE ACTION, from between two calls

-- in the call that was opened: it is done, or has the model's first refusal, and is told so
abbrev pub AskedAloneAs : {M : Type 0} → (M → View → Type 0) → Lane M → Operation
    → Result (Unit {0}) Refusal → Standing → Type 0
AskedAloneAs at lane op (Ok done) s =
    (refusal_alone unseen s.view op ≡ None) × WasAsked at lane s op None
AskedAloneAs at lane op (Err r) s =
    (refusal_alone unseen s.view op ≡ Some r) × WasAsked at lane s op (Some (Refused r))

-- or no call was opened
abbrev pub AskedOutsideAs : {M : Type 0} → (M → View → Type 0) → Lane M → Operation
    → Result (Unit {0}) Refusal → Standing → Type 0
AskedOutsideAs at lane op (Err refusal.Spent) s = NoneIsLeft at lane s
AskedOutsideAs at lane op result s = AfterOpening s (AskedAloneAs at lane op result)

unfoldable pub AskedOutside : {M : Type 0} → (M → View → Type 0) → Lane M → Lane M → Operation
    → Result (Unit {0}) Refusal → Type 0
AskedOutside at old new op result = (s : Standing) → Rests at old s → MayOpen s
    → AskedOutsideAs at new op result s

-- ---- THE END OF A LANE'S WORK: nothing is pending, and all else is as it was
abbrev pub FinishedSo : {M : Type 0} → Bool → (M → View → Type 0) → Lane M → Lane M
    → Result (Unit {0}) Refusal → Type 0
FinishedSo true at old new result = (result ≡ Err refusal.Stopped) × (new ≡ old)
FinishedSo false at old new result = (result ≡ Ok tt) × ((s : Standing) → Rests at old s
    → IsSeenAs at new s.view (record (at_rest s) { pending = [] }))

unfoldable pub Finished : {M : Type 0} → (M → View → Type 0) → Lane M → Lane M
    → Result (Unit {0}) Refusal → Type 0
Finished at old new result = FinishedSo old.stopped at old new result
