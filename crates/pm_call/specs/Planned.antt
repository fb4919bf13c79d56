-- WHAT A LANE DOES: the plans of its operations, one after another, and steps of no plan between them.
use Rattle.std.specs.Prelude.{◌≡◌, ◌||◌, ℕ, Bool, true, false, List, [], ◌∷◌, map, take, Option, Some, None}
use Rattle.std.specs.List.{cons_option}
use Rattle.pm_model.specs.Pending.{SetWord}
use Rattle.pm_objects.specs.declared.calls.Operation.{Operation}
use Rattle.pm_objects.specs.declared.calls.Operation.TheVariants.{Abort, AddRange, Begin, Cancel, Commit, Increment, Lock, Publish, Read, SetValue, Write}
use Rattle.pm_objects.specs.declared.history.Value.{Value}
use Rattle.pm_objects.specs.declared.history.Value.TheVariants.{Refused}
use Rattle.pm_objects.specs.declared.ids.Oid.{Oid}
use Rattle.pm_record.specs.declared.redo.Redo.{Redo}
use Rattle.pm_view.specs.Steps.{Step}
use Rattle.pm_view.specs.View.{View, idle}
use Rattle.pm_view.specs.Views.{after_all}
use Rattle.pm_crash.specs.Sim.{lists_of}
use Rattle.pm_plan.specs.Plans.{Plan}
use Rattle.pm_call.specs.At.{set_entry}
use Rattle.pm_call.specs.Plans.{adds, cancels, commits, ends_call, gets, gives_up, increments, puts, tells}
use Rattle.pm_call.specs.Publications.{publishes}
use Rattle.pm_call.specs.Quiet.{AreQuiet}
use Rattle.pm_call.specs.Waiting.{pending_now}

-- ---- WHICH OPERATIONS have no memory call of their own

-- those that are only recorded inside of a transaction: an inner level is committed so, and words that
-- are published are set by the commit of the outermost
abbrev pub is_recorded_alone : Operation → Bool
is_recorded_alone (Begin wants) = true
is_recorded_alone (Lock want) = true
is_recorded_alone (SetValue id off value) = true
is_recorded_alone Publish = true
is_recorded_alone Commit = true
is_recorded_alone op = false

-- those that are a call by themselves; of the publishes the refused ones
abbrev pub is_call_alone : Operation → Option Value → Bool
is_call_alone (SetValue id off value) reply = true
is_call_alone Cancel reply = true
is_call_alone Publish (Some value) = true
is_call_alone op reply = false

-- the transaction is given up for it: it is refused, or is an abort
abbrev pub is_refusal : Option Value → Bool
is_refusal (Some (Refused r)) = true
is_refusal reply = false

abbrev pub is_abort : Operation → Bool
is_abort (Abort errnum) = true
is_abort op = false

abbrev pub is_given_up : Operation → Option Value → Bool
is_given_up op reply = is_refusal reply || is_abort op

-- ---- ONE OF THEM
pub data Planned : Type 0 where
  -- looks, locks and what else is of no plan
  Quiet : (steps : List Step) → AreQuiet steps → Planned
  -- an operation that is only recorded
  Records : (op : Operation) → Option Value → is_recorded_alone op ≡ true → Planned
  -- a range is recorded, written, read; a number is incremented; what is pending is cancelled
  Adds : Oid → ℕ → ℕ → Planned
  Writes : Oid → ℕ → List ℕ → Planned
  Reads : Oid → ℕ → ℕ → Planned
  Increments : Oid → ℕ → ℕ → Planned
  Cancels : Planned
  -- the outermost level is committed; or all is rolled back, for an operation. Here and below: what
  -- ORs and ANDs find, and the number that the call takes, less one
  Commits : (ℕ → ℕ) → ℕ → Planned
  RollsBack : (op : Operation) → (reply : Option Value) → ℕ → is_given_up op reply ≡ true → Planned
  -- outside a transaction: a call by itself; a publish of the words that are pending
  Lone : (op : Operation) → (reply : Option Value) → ℕ → is_call_alone op reply ≡ true → Planned
  Publishes : (ℕ → ℕ) → ℕ → Planned

-- the words that a transaction published, as entries of its log; and those that are pending
abbrev pub entries_to_log : View → List Redo
entries_to_log v = map set_entry (lists_of v).sets

abbrev pub words_to_set : View → List SetWord
words_to_set v = (pending_now v).sets

abbrev pub steps_of : Planned → Plan
steps_of (Quiet steps quiet) v = steps
steps_of (Records op reply alone) v = tells op reply v
steps_of (Adds id off len) v = adds id off len v
steps_of (Writes id off bytes) v = puts id off bytes v
steps_of (Reads id off len) v = gets id off len v
steps_of (Increments id off by) v = increments id off by v
steps_of Cancels v = cancels v
steps_of (Commits found n) v = commits (entries_to_log v) found n v
steps_of (RollsBack op reply n given) v = gives_up op reply n v
steps_of (Lone op reply n alone) v = ends_call op reply n v
steps_of (Publishes found n) v = publishes (words_to_set v) found n v

-- its operation
abbrev pub operation_of : Planned → Option Operation
operation_of (Quiet steps quiet) = None
operation_of (Records op reply alone) = Some op
operation_of (Adds id off len) = Some (AddRange id off len)
operation_of (Writes id off bytes) = Some (Write id off bytes)
operation_of (Reads id off len) = Some (Read id off len)
operation_of (Increments id off by) = Some (Increment id off by)
operation_of Cancels = Some Cancel
operation_of (Commits found n) = Some Commit
operation_of (RollsBack op reply n given) = Some op
operation_of (Lone op reply n alone) = Some op
operation_of (Publishes found n) = Some Publish

-- ---- SOME OF THEM, the latest first

-- their operations
abbrev pub operations_of : List Planned → List Operation
operations_of [] = []
operations_of (p ∷ earlier) = cons_option (operation_of p) (operations_of earlier)

-- A VIEW CAME BY THEM from when its lane was idle
unfoldable pub CameBy : View → List Planned → Type 0
CameBy v [] = (generation : ℕ) × (v ≡ idle v.fixed generation)
CameBy v (p ∷ earlier) = (before : View) × CameBy before earlier
    × (v ≡ after_all before (steps_of p before))

-- of the latest perhaps the first steps alone were made: its lane stopped there
unfoldable pub CameUpTo : View → List Planned → Type 0
CameUpTo v [] = CameBy v []
CameUpTo v (p ∷ earlier) = (before : View) × CameBy before earlier
    × (made : ℕ) × (v ≡ after_all before (take made (steps_of p before)))
