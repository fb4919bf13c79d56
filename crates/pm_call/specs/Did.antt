-- WHAT AN OPERATION OF A TRANSACTION DID to a lane, in one word for each kind of function, by cases of what it answers.
use Rattle.std.specs.Prelude.{◌≡◌, ◌⊎◌, ℕ, ◌==◌, ◌<◌, ◌≤◌, Bool, true, false, if◌then◌else◌, [], take, Option, Some, None, Result, Ok, Err}
use Rattle.pm_memory.specs.Runs.{Stops}
use Rattle.pm_model.specs.Refusals.{Seen}
use Rattle.pm_model.specs.declared.stage.Stage.{Stage}
use Rattle.pm_model.specs.declared.stage.Stage.TheVariants as stage
use Rattle.pm_objects.specs.declared.calls.Operation.{Operation}
use Rattle.pm_objects.specs.declared.history.TxErr.{TxErr}
use Rattle.pm_objects.specs.declared.history.TxErr.TheVariants as error
use Rattle.pm_objects.specs.declared.history.Value.TheVariants.{Refused}
use Rattle.pm_objects.specs.declared.refusal.Refusal.{Refusal}
use Rattle.pm_objects.specs.declared.refusal.Refusal.TheVariants as refusal
use Rattle.pm_layout.specs.Areas.{word_of_generation, word_of_seal}
use Rattle.pm_view.specs.Log.{Idle, new_log}
use Rattle.pm_view.specs.View.{View}
use Rattle.pm_view.specs.Views.{after_all, value_in}
use Rattle.pm_view.specs.Claims.{making}
use Rattle.pm_world.specs.InWorld.{IsSound, SizesFit}
use Rattle.pm_world.specs.LaneFields.{Fields, IsSeenAs, Standing, Works, fields_at, fields_of, moved}
use Rattle.pm_world.specs.declared.lane.Lane.{Lane}
use Rattle.pm_crash.specs.Facts.{HaveFacts}
use Rattle.pm_crash.specs.Looked.{refusal_by}
use Rattle.pm_crash.specs.SimOps.{LookedAt}
use Rattle.pm_plan.specs.Plans.{Plan, Ready}
use Rattle.pm_call.specs.At.{At, entries_so_far}
use Rattle.pm_call.specs.Held.{HoldsAll, KnowsOwn, Looks}
use Rattle.pm_call.specs.Waiting.{HasPending, uncalled}
use Rattle.pm_call.specs.Plans.{gives_up}
use Rattle.pm_call.specs.Unwritten.{WritesNoRecord, is_adding}
use Rattle.pm_undo.specs.Working.{IsWorking}

-- ---- STAGES OF A LANE

-- the lane is at work, between two operations
pub record IsAt {M : Type 0} (at : M → View → Type 0) (lane : Lane M) : Type 0 where
  pub standing : Standing
  pub works : Works at lane standing
  pub stands : At standing

-- and this holds of its view
pub record IsAtSo {M : Type 0} (at : M → View → Type 0) (lane : Lane M) (Q : Standing → Type 0) : Type 0 where
  pub standing : Standing
  pub works : Works at lane standing
  pub stands : At standing
  pub holds : Q standing

-- why an operation that needs a transaction at work is refused, if it is
abbrev pub stage_refusal : Stage → ℕ → Option Refusal
stage_refusal stage.Work level = if level == 0 then Some refusal.NoTx else None
stage_refusal s level = if level == 0 then Some refusal.NoTx else Some refusal.NotWork

abbrev pub work_refusal : {M : Type 0} → Lane M → Option Refusal
work_refusal lane = if lane.stopped then Some refusal.Stopped else stage_refusal lane.stage lane.level

-- ---- LOOKS: the lane looked at some words under its locks, and then this holds
pub record After (s : Standing) (P : Standing → Type 0) : Type 0 where
  pub looks : ℕ
  pub view : View
  pub looked : Looks looks s.view view
  pub holds : P (moved s view)

-- ---- REFUSALS: the operation's first one, as the model has it; these operations see nothing but the lane's lists and objects

abbrev pub unseen : Seen
unseen = record { spent = false; busy = false; missing = []; full = false; room = 0 }

pub record IsRefused (s : Standing) (op : Operation) (r : Refusal) : Type 0 where
  pub looks : LookedAt s.view (entries_so_far s) None op
  pub first : refusal_by unseen s.view None op ≡ Some r

pub record IsUnrefused (s : Standing) (op : Operation) : Type 0 where
  pub looks : LookedAt s.view (entries_so_far s) None op
  pub none : refusal_by unseen s.view None op ≡ None

-- ---- WHAT IT CAME TO

-- the lane's data after the steps of a plan
abbrev pub next : Standing → Plan → Standing
next s plan = moved s (after_all s.view (plan s.view))

-- the plan was carried out, and the lane is at work again
pub record Done {M : Type 0} (at : M → View → Type 0) (lane : Lane M) (s : Standing) (op : Operation) (plan : Plan) : Type 0 where
  pub unrefused : IsUnrefused s op
  pub ready : Ready s.view (plan s.view)
  pub works : Works at lane (next s plan)
  pub stands : At (next s plan)

-- the first of its steps were, up to the lane's stop; of the fields only the log and the flag of the stop may be another.
-- After all of the plan the entries would have their facts; so those have that are there by now
pub record Cut {M : Type 0} (at : M → View → Type 0) (lane : Lane M) (s : Standing) (plan : Plan) (stopped : Bool) : Type 0 where
  pub working : IsWorking s.view
  pub ready : Ready s.view (plan s.view)
  pub stops : Stops (at lane.memory) s.view (plan s.view)
  pub fields : fields_of lane ≡ record (fields_at stage.Work s) { generation = lane.log.generation; records = lane.log.records.items; stopped = stopped }
  pub facts : HaveFacts (next s plan).view

-- it was writing no record of its log then
abbrev pub WasUnwritten : {M : Type 0} {at : M → View → Type 0} {lane : Lane M} {s : Standing} {plan : Plan} {stopped : Bool} → Cut at lane s plan stopped → Type 0
WasUnwritten {s = s} {plan = plan} cut = WritesNoRecord (after_all s.view (take cut.stops.made (plan s.view)))

-- THE CALL IS OVER: it has its number, its log is retired, and nothing is undrained; its locks are held still
pub record IsOver (s : Standing) : Type 0 where
  pub log : s.view.log ≡ new_log Idle s.view.log.generation
  pub drained : s.view.changes ≡ []
  pub lane : s.view.fixed.lane < s.view.fixed.shape.lanes
  pub lanes : s.view.fixed.shape.lanes ≤ 32
  pub zones : s.view.fixed.shape.zones ≤ 32
  pub unmaking : (c : ℕ) → making s.view.fixed.shape s.view.claims c ≡ false
  pub sound : IsSound s.view
  pub sizes : SizesFit s.view
  pub known : value_in s.view (word_of_generation s.view.fixed.shape s.view.fixed.lane) ≡ Some s.view.log.generation
  pub sealed : value_in s.view (word_of_seal s.view.fixed.shape s.view.fixed.lane) ≡ Some 0
  pub holds : HoldsAll s.view s.locks
  pub own : KnowsOwn s.view
  pub pending : HasPending (uncalled s.view)
  pub facts : HaveFacts s.view

-- the fields of a lane whose call was given up for this reason
abbrev pub given_up : TxErr → Standing → Fields
given_up e s = record (fields_at stage.OnAbort s) { entries = []; error = e }

-- it was given up for a refusal of the operation
pub record GaveUp {M : Type 0} (at : M → View → Type 0) (lane : Lane M) (s : Standing) (op : Operation) (r : Refusal) : Type 0 where
  pub refused : IsRefused s op r
  pub number : ℕ
  pub ready : Ready s.view (gives_up op (Some (Refused r)) number s.view)
  pub sees : IsSeenAs at lane (after_all s.view (gives_up op (Some (Refused r)) number s.view)) (given_up (error.Refused r) (next s (gives_up op (Some (Refused r)) number)))
  pub over : IsOver (next s (gives_up op (Some (Refused r)) number))

-- what an operation that is tried comes to: it is done, with this answer; the lane stopped in its steps; or it is refused, and nothing was done
abbrev pub Came : {M T : Type 0} → (M → View → Type 0) → Lane M → Operation → (View → Plan) → (View → T → Type 0) → Result T Refusal → Standing → Type 0
Came at lane op plan Is (Ok x) s = Done at lane s op (plan s.view) × Is s.view x
Came at lane op plan Is (Err refusal.Stopped) s = IsUnrefused s op × ((cut : Cut at lane s (plan s.view) false) × (is_adding op ≡ false → WasUnwritten cut))
Came at lane op plan Is (Err r) s = IsRefused s op r × Works at lane s × At s

-- and one that is given up where it is refused
abbrev pub Stopped : {M : Type 0} → (M → View → Type 0) → Lane M → Standing → Operation → Plan → Type 0
Stopped at lane s op plan = (IsUnrefused s op × ((cut : Cut at lane s plan true) × (is_adding op ≡ false → WasUnwritten cut)))
    ⊎ ((r : Refusal) × (n : ℕ) × IsRefused s op r × Cut at lane s (gives_up op (Some (Refused r)) n) true)

abbrev pub Ends : {M T : Type 0} → (M → View → Type 0) → Lane M → Operation → (View → Plan) → (View → T → Type 0) → Result T Refusal → Standing → Type 0
Ends at lane op plan Is (Ok x) s = Done at lane s op (plan s.view) × Is s.view x
Ends at lane op plan Is (Err refusal.Stopped) s = Stopped at lane s op (plan s.view)
Ends at lane op plan Is (Err r) s = GaveUp at lane s op r

-- ---- ONE WORD FOR EACH KIND OF FUNCTION, with the lane before, the lane after and the result

-- a check: this holds, or the operation is refused, and nothing was done
abbrev pub Found : {M T : Type 0} → (M → View → Type 0) → Lane M → (Standing → T → Type 0) → Operation → Result T Refusal → Standing → Type 0
Found at lane Q op (Ok x) s = Q s x × Works at lane s × At s
Found at lane Q op (Err r) s = IsRefused s op r × Works at lane s × At s

unfoldable pub Checked : {M T : Type 0} → (M → View → Type 0) → Lane M → Lane M → (Standing → T → Type 0) → Operation → Result T Refusal → Type 0
Checked at old new Q op result = (s : Standing) → Works at old s → At s → After s (Found at new Q op result)

-- an operation on what is checked
unfoldable pub Acted : {M T : Type 0} → (M → View → Type 0) → Lane M → Lane M → (Standing → Type 0) → Operation → (View → Plan) → (View → T → Type 0) → Result T Refusal → Type 0
Acted at old new Q op plan Is result = (s : Standing) → Works at old s → At s → Q s → After s (Came at new op plan Is result)

-- a check and an operation
unfoldable pub Tried : {M T : Type 0} → (M → View → Type 0) → Lane M → Lane M → Operation → (View → Plan) → (View → T → Type 0) → Result T Refusal → Type 0
Tried at old new op plan Is result = (s : Standing) → Works at old s → At s → After s (Came at new op plan Is result)

-- THE OPERATION: refused for its stage it changes nothing; else it is done, given up, or stopped
abbrev pub DidSo : {M T : Type 0} → Option Refusal → (M → View → Type 0) → Lane M → Lane M → Operation → (View → Plan) → (View → T → Type 0) → Result T Refusal → Type 0
DidSo (Some r) at old new op plan Is result = (result ≡ Err r) × (new ≡ old)
DidSo None at old new op plan Is result = (s : Standing) → Works at old s → At s → After s (Ends at new op plan Is result)

unfoldable pub Did : {M T : Type 0} → (M → View → Type 0) → Lane M → Lane M → Operation → (View → Plan) → (View → T → Type 0) → Result T Refusal → Type 0
Did at old new op plan Is result = DidSo (work_refusal old) at old new op plan Is result
