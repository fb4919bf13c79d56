-- A TRANSACTION IS GIVEN UP: all that it did is rolled back, the operation that ends it is told, and it takes its number.
use Rattle.std.specs.Prelude.{◌≡◌, ◌⊎◌, ℕ, suc, ◌+◌, true, false, List, [], ◌∷◌, Option, Some, None, Result, Ok, Err}
use Rattle.pm_memory.specs.Runs.{Stops}
use Rattle.pm_memory.specs.declared.lane_mem.Stopped.{Stopped}
use Rattle.pm_model.specs.Items.{is_among}
use Rattle.pm_model.specs.Refusals.{Seen}
use Rattle.pm_model.specs.Inside.{is_action, is_inside, wants_of}
use Rattle.pm_objects.specs.declared.calls.Operation.{Operation}
use Rattle.pm_objects.specs.declared.calls.Operation.TheVariants.{Abort}
use Rattle.pm_objects.specs.declared.history.TxErr.{TxErr}
use Rattle.pm_objects.specs.declared.history.Value.{Value}
use Rattle.pm_objects.specs.declared.history.Value.TheVariants.{Refused}
use Rattle.pm_objects.specs.declared.history.TxErr.TheVariants as error
use Rattle.pm_objects.specs.declared.refusal.Refusal.{Refusal}
use Rattle.pm_objects.specs.declared.refusal.Refusal.TheVariants as refusal
use Rattle.pm_view.specs.Log.{Recorded}
use Rattle.pm_view.specs.View.{View}
use Rattle.pm_view.specs.Views.{after_all}
use Rattle.pm_world.specs.LaneFields.{IsSeenAs, Standing, Works, fields_of, last_number}
use Rattle.pm_world.specs.declared.lane.HeldLock.{HeldLock}
use Rattle.pm_world.specs.declared.lane.Lane.{Lane}
use Rattle.pm_plan.specs.Plans.{Plan, Ready}
use Rattle.pm_undo.specs.Undoing.{KeepsLog, LogMoves}
use Rattle.pm_undo.specs.Working.{IsWorking}
use Rattle.pm_crash.specs.Facts.{WasTried}
use Rattle.pm_crash.specs.Looked.{refusal_by}
use Rattle.pm_crash.specs.Missed.{FoundNone}
use Rattle.pm_crash.specs.SimOps.{LookedAt}
use Rattle.pm_call.specs.At.{IsAtWith, entries_so_far}
use Rattle.pm_call.specs.Did.{Cut, IsOver, given_up, next}
use Rattle.pm_call.specs.Plans.{ends_call, gives_up}

-- ---- WHICH OPERATIONS GIVE IT UP, with their replies

-- one that is refused, by the lane's lists and by what it looked at and saw, and is none on the pending list alone
pub record IsRefusedWith (s : Standing) (op : Operation) (reply : Option Value) : Type 0 where
  pub inside : is_inside op ≡ true
  pub plain : is_action op ≡ false
  pub seen : Seen
  pub root : Option ℕ
  pub looks : LookedAt s.view (entries_so_far s) root op
  pub refusal : Refusal
  pub first : refusal_by seen s.view root op ≡ Some refusal
  pub replied : reply ≡ Some (Refused refusal)
  -- a lock that was seen to be another lane's was tried in the call, and is wanted
  pub busy : seen.busy ≡ true → WasTried (wants_of op) s.view.seen
  -- where an object was seen to be missing none was found
  pub missing : (off : ℕ) → is_among seen.missing off ≡ true → FoundNone s.view off

-- an abort
pub record IsAbort (op : Operation) (reply : Option Value) : Type 0 where
  pub errnum : ℕ
  pub is : op ≡ Abort errnum
  pub replied : reply ≡ None

abbrev pub GivesUp : Standing → Operation → Option Value → Type 0
GivesUp s op reply = IsRefusedWith s op reply ⊎ IsAbort op reply

-- ---- WHAT IS LEFT THEN

-- the generation ends where it has records
abbrev pub generation_after : List Recorded → ℕ → ℕ
generation_after [] generation = generation
generation_after (r ∷ records) generation = generation + 1

pub record LeavesOver (s : Standing) (op : Operation) (reply : Option Value) (n : ℕ) : Type 0 where
  pub ready : Ready s.view (gives_up op reply n s.view)
  pub over : IsOver (next s (gives_up op reply n))
  pub generation : (next s (gives_up op reply n)).view.log.generation ≡ generation_after s.view.log.records s.view.log.generation
  pub number : last_number (next s (gives_up op reply n)).view.entries ≡ suc n

-- the lane's data with this list of locks
abbrev pub with_locks : List HeldLock → Standing → Standing
with_locks locks s = record s { locks = locks }

-- THE LAW: a lane at work may give its transaction up, whatever locks it got besides, and it is over then, whatever number it takes
abbrev pub TransactionsMayBeGivenUp : Type 0
TransactionsMayBeGivenUp = (s : Standing) (locks : List HeldLock) (op : Operation) (reply : Option Value) (n : ℕ) → IsAtWith s s.level locks → GivesUp s op reply → LeavesOver (with_locks locks s) op reply n

-- ---- WHAT WAS DONE TO A LANE

-- a plan of the log was carried out, so that its log is what the view says then; or the lane stopped on the way, and its fields are as they were
abbrev pub MovesLog : {M : Type 0} → (M → View → Type 0) → Lane M → Lane M → Plan → View → Result (Unit {0}) Stopped → Type 0
MovesLog at old new plan v (Ok done) = LogMoves at old new (after_all v (plan v))
MovesLog at old new plan v (Err stopped) = Stops (at new.memory) v (plan v) × (fields_of new ≡ fields_of old)

unfoldable pub MovedLog : {M : Type 0} → (M → View → Type 0) → Lane M → Lane M → Plan → Result (Unit {0}) Stopped → Type 0
MovedLog at old new plan result = (v : View) → KeepsLog at old v → IsWorking v → MovesLog at old new plan v result

-- THE LANE IS AT WORK with whatever locks it got besides, and this holds of its view
pub record IsAtBut {M : Type 0} (at : M → View → Type 0) (lane : Lane M) (Q : Standing → Type 0) : Type 0 where
  pub standing : Standing
  pub locks : List HeldLock
  pub works : Works at lane (with_locks locks standing)
  pub stands : IsAtWith standing standing.level locks
  pub holds : Q standing

-- for each number an end of the call may be carried out
unfoldable pub MayEnd : (View → Type 0) → Operation → Option Value → Type 0
MayEnd old op reply = (v : View) × old v × ((n : ℕ) → Ready v (ends_call op reply n v))

-- it was given up with this operation and this error
pub record WasGivenUp {M : Type 0} (at : M → View → Type 0) (lane : Lane M) (s : Standing) (op : Operation) (reply : Option Value) (e : TxErr) : Type 0 where
  pub number : ℕ
  pub ready : Ready s.view (gives_up op reply number s.view)
  pub sees : IsSeenAs at lane (after_all s.view (gives_up op reply number s.view)) (given_up e (next s (gives_up op reply number)))
  pub over : IsOver (next s (gives_up op reply number))

abbrev pub GivenUpAs : {M : Type 0} → (M → View → Type 0) → Lane M → Operation → Option Value → TxErr → Result (Unit {0}) Stopped → Standing → Type 0
GivenUpAs at lane op reply e (Ok done) s = WasGivenUp at lane s op reply e
GivenUpAs at lane op reply e (Err stopped) s = (n : ℕ) × Cut at lane s (gives_up op reply n) false

unfoldable pub GivenUp : {M : Type 0} → (M → View → Type 0) → Lane M → Lane M → Operation → Option Value → TxErr → Result (Unit {0}) Stopped → Type 0
GivenUp at old new op reply e result = (s : Standing) (locks : List HeldLock) → Works at old (with_locks locks s) → IsAtWith s s.level locks → GivesUp s op reply → GivenUpAs at new op reply e result (with_locks locks s)

-- A REFUSED OPERATION gives the call up; a stop has nothing to give up, and the lane says that it stopped
abbrev pub GivesUpFor : {M : Type 0} → (M → View → Type 0) → Lane M → Operation → Refusal → Refusal → Standing → Type 0
GivesUpFor at lane op why refusal.Stopped s = (n : ℕ) × Cut at lane s (gives_up op (Some (Refused why)) n) true
GivesUpFor at lane op why answer s = (answer ≡ why) × WasGivenUp at lane s op (Some (Refused why)) (error.Refused why)

unfoldable pub Refuses : {M : Type 0} → (M → View → Type 0) → Lane M → Lane M → Operation → Refusal → Refusal → Type 0
Refuses at old new op refusal.Stopped answer = (answer ≡ refusal.Stopped) × (new ≡ record old { stopped = true })
Refuses at old new op why answer = (s : Standing) (locks : List HeldLock) → Works at old (with_locks locks s) → IsAtWith s s.level locks → GivesUp s op (Some (Refused why)) → GivesUpFor at new op why answer (with_locks locks s)
