-- A LANE STANDS after each call of a transaction, as laws: one that stood with a history does so after a
-- call that did this, whatever it returned, and its history is turned by what it returned.
use Rattle.std.specs.Prelude.{ℕ, List, Option, None, Some, Result}
use Rattle.pm_model.specs.declared.stage.Stage.{Stage}
use Rattle.pm_model.specs.declared.stage.Stage.TheVariants as stage
use Rattle.pm_objects.specs.declared.calls.Operation.{Operation}
use Rattle.pm_objects.specs.declared.calls.Operation.TheVariants.{Abort, AddRange, Begin, Increment, Publish, Read, Write}
use Rattle.pm_objects.specs.declared.calls.Want.{Want}
use Rattle.pm_objects.specs.declared.history.TxErr.{TxErr}
use Rattle.pm_objects.specs.declared.history.Value.{Value}
use Rattle.pm_objects.specs.declared.history.Value.TheVariants.{Bytes, Number}
use Rattle.pm_objects.specs.declared.ids.Oid.{Oid}
use Rattle.pm_objects.specs.declared.refusal.Refusal.{Refusal}
use Rattle.pm_objects.specs.declared.refusal.Refusal.TheVariants as refusal
use Rattle.pm_view.specs.View.{View}
use Rattle.pm_world.specs.declared.lane.Lane.{Lane}
use Rattle.pm_call.specs.Adding.{HasCounted}
use Rattle.pm_call.specs.Did.{Did, work_refusal}
use Rattle.pm_call.specs.Histories.{LaneHistory, no_value, turned, turned_commit, turned_last, turned_open, unless}
use Rattle.pm_call.specs.Incrementing.{HasSum}
use Rattle.pm_call.specs.Plans.{adds, gets, increments, puts}
use Rattle.pm_call.specs.Reading.{HasRead}
use Rattle.pm_call.specs.Stages.{Ended}
use Rattle.pm_call.specs.Standing.{TurnsAtWork, TurnsHistory}
use Rattle.pm_tx.specs.Begins.{LevelBegun}
use Rattle.pm_tx.specs.Commits.{LevelCommitted, Processed}
use Rattle.pm_tx.specs.Locks.{DidLock}
use Rattle.pm_tx.specs.Outcome.{Aborted}
use Rattle.pm_tx.specs.Publishing.{Published}

-- ---- RANGES

abbrev pub uncounted : ℕ → Option Value
uncounted n = None

abbrev pub AddsTurn : {M : Type 0} → (M → View → Type 0) → Type 0
AddsTurn at = (id : Oid) (off len : ℕ) (result : Result ℕ Refusal)
    → TurnsAtWork at (λ old new. Did at old new (AddRange id off len) (λ v. adds id off len)
    (HasCounted id off len) result) (AddRange id off len) uncounted result

abbrev pub WritesTurn : {M : Type 0} → (M → View → Type 0) → Type 0
WritesTurn at = (id : Oid) (off : ℕ) (bytes : List ℕ) (result : Result (Unit {0}) Refusal)
    → TurnsAtWork at (λ old new. Did at old new (Write id off bytes) (λ v. puts id off bytes)
    (λ v done. Unit) result) (Write id off bytes) no_value result

-- what was read is what its caller's buffer has then
abbrev pub read_bytes : List ℕ → Unit {0} → Option Value
read_bytes into done = Some (Bytes into)

abbrev pub ReadsTurn : {M : Type 0} → (M → View → Type 0) → Type 0
ReadsTurn at =
    (id : Oid) (off len : ℕ) (into : List ℕ) (result : Result (Unit {0}) Refusal)
    → TurnsAtWork at (λ old new. Did at old new (Read id off len) (λ v. gets id off len)
    (HasRead id off len into) result) (Read id off len) (read_bytes into) result

-- the new number is told
abbrev pub summed : ℕ → Option Value
summed n = Some (Number n)

abbrev pub IncrementsTurn : {M : Type 0} → (M → View → Type 0) → Type 0
IncrementsTurn at = (id : Oid) (off by : ℕ) (result : Result ℕ Refusal)
    → TurnsAtWork at (λ old new. Did at old new (Increment id off by)
    (λ v. increments id off by) (HasSum id off by) result) (Increment id off by) summed result

-- ---- WHAT IS PENDING

abbrev pub PublishesTurn : {M : Type 0} → (M → View → Type 0) → Type 0
PublishesTurn at = (result : Result (Unit {0}) Refusal)
    → TurnsAtWork at (λ old new. Published at old new result) Publish no_value result

-- ---- STAGES

-- a commit at this level, where the stage does not refuse it
abbrev pub turned_level : {M : Type 0} → Lane M → Lane M → Result (Unit {0}) Refusal
    → LaneHistory → LaneHistory
turned_level old new result h = unless (work_refusal old) (turned_commit old.level new result h) h

abbrev pub CommitsTurn : {M : Type 0} → (M → View → Type 0) → Type 0
CommitsTurn at = (result : Result (Unit {0}) Refusal)
    → TurnsHistory at (λ old new. LevelCommitted at old new result)
    (λ old new h. turned_level old new result h)

-- past its work a level tells nothing
abbrev pub turned_stage : {M : Type 0} → Stage → Lane M → Lane M → Result (Unit {0}) Refusal
    → LaneHistory → LaneHistory
turned_stage stage.Work old new result h = turned_level old new result h
turned_stage s old new result h = h

abbrev pub ProcessesTurn : {M : Type 0} → (M → View → Type 0) → Type 0
ProcessesTurn at = (result : Result (Unit {0}) Refusal)
    → TurnsHistory at (λ old new. Processed at old new result)
    (λ old new h. turned_stage old.stage old new result h)

abbrev pub AbortsTurn : {M : Type 0} → (M → View → Type 0) → Type 0
AbortsTurn at = (errnum : ℕ) (result : Result (Unit {0}) Refusal)
    → TurnsHistory at (λ old new. Aborted at old new errnum result)
    (λ old new h. unless (work_refusal old) (turned_last new (Abort errnum) result h) h)

abbrev pub EndsTurn : {M : Type 0} → (M → View → Type 0) → Type 0
EndsTurn at = (result : Result TxErr Refusal)
    → TurnsHistory at (λ old new. Ended at old new result) (λ old new h. h)

-- ---- LOCKS, and levels that begin

abbrev pub LocksTurn : {M : Type 0} → (M → View → Type 0) → Type 0
LocksTurn at = (op : Operation) (wants : List Want) (result : Result (Unit {0}) Refusal)
    → TurnsAtWork at (λ old new. DidLock at old new op wants result) op no_value result

-- an inner level begins at work, the outermost one where none is open
abbrev pub turned_begin : {M : Type 0} → Option Refusal → Lane M → List Want
    → Result (Unit {0}) Refusal → LaneHistory → LaneHistory
turned_begin None lane wants result h = turned lane (Begin wants) no_value result h
turned_begin (Some refusal.NoTx) lane wants result h = turned_open lane (Begin wants) result h
turned_begin (Some r) lane wants result h = h

abbrev pub BeginsTurn : {M : Type 0} → (M → View → Type 0) → Type 0
BeginsTurn at = (wants : List Want) (result : Result (Unit {0}) Refusal)
    → TurnsHistory at (λ old new. LevelBegun at old new wants result)
    (λ old new h. turned_begin (work_refusal old) new wants result h)
