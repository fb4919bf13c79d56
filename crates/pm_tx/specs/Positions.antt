-- WHERE EACH CALL OF A TRANSACTION LEAVES ITS LANE, as laws, by what it returned: the level, the
-- stage and the error, or the lane's stop.
use Rattle.std.specs.Prelude.{◌≡◌, ℕ, zero, suc, List, Option, Some, None, Result, Ok, Err}
use Rattle.pm_model.specs.Inside.{error_for}
use Rattle.pm_model.specs.declared.stage.Stage.{Stage}
use Rattle.pm_model.specs.declared.stage.Stage.TheVariants as stage
use Rattle.pm_objects.specs.declared.calls.Operation.{Operation}
use Rattle.pm_objects.specs.declared.calls.Operation.TheVariants.{AddRange, Increment, Read, Write}
use Rattle.pm_objects.specs.declared.calls.Want.{Want}
use Rattle.pm_objects.specs.declared.history.TxErr.{TxErr}
use Rattle.pm_objects.specs.declared.history.TxErr.TheVariants as error
use Rattle.pm_objects.specs.declared.ids.Oid.{Oid}
use Rattle.pm_objects.specs.declared.refusal.Refusal.{Refusal}
use Rattle.pm_objects.specs.declared.refusal.Refusal.TheVariants as refusal
use Rattle.pm_view.specs.View.{View}
use Rattle.pm_world.specs.declared.lane.Lane.{Lane}
use Rattle.pm_call.specs.Adding.{HasCounted}
use Rattle.pm_call.specs.Did.{Did, work_refusal}
use Rattle.pm_call.specs.Histories.{LaneHistory}
use Rattle.pm_call.specs.Incrementing.{HasSum}
use Rattle.pm_call.specs.Plans.{adds, gets, increments, puts}
use Rattle.pm_call.specs.Positions.{MovesAtWork, MovesPosition, Position, aborted_at, at_stop, moved_by, resting, stopped_by, unless_refused, working}
use Rattle.pm_call.specs.Reading.{HasRead}
use Rattle.pm_call.specs.Stages.{Ended, end_refusal, next_stage}
use Rattle.pm_call.specs.Standing.{StandsWith}
use Rattle.pm_tx.specs.Begins.{LevelBegun}
use Rattle.pm_tx.specs.Commits.{LevelCommitted, Processed}
use Rattle.pm_tx.specs.Locks.{DidLock}
use Rattle.pm_tx.specs.Outcome.{Aborted}
use Rattle.pm_tx.specs.Publishing.{Published}

-- ---- OPERATIONS AT WORK: done, the level stays at work; refused, the transaction is aborted

abbrev pub AddsMove : {M : Type 0} → (M → View → Type 0) → Type 0
AddsMove at = (id : Oid) (off len : ℕ) (result : Result ℕ Refusal)
    → MovesAtWork at (λ old new. Did at old new (AddRange id off len) (λ v. adds id off len)
    (HasCounted id off len) result) (moved_by result)

abbrev pub WritesMove : {M : Type 0} → (M → View → Type 0) → Type 0
WritesMove at = (id : Oid) (off : ℕ) (bytes : List ℕ) (result : Result (Unit {0}) Refusal)
    → MovesAtWork at (λ old new. Did at old new (Write id off bytes) (λ v. puts id off bytes)
    (λ v done. Unit) result) (moved_by result)

abbrev pub ReadsMove : {M : Type 0} → (M → View → Type 0) → Type 0
ReadsMove at =
    (id : Oid) (off len : ℕ) (into : List ℕ) (result : Result (Unit {0}) Refusal)
    → MovesAtWork at (λ old new. Did at old new (Read id off len) (λ v. gets id off len)
    (HasRead id off len into) result) (moved_by result)

abbrev pub IncrementsMove : {M : Type 0} → (M → View → Type 0) → Type 0
IncrementsMove at = (id : Oid) (off by : ℕ) (result : Result ℕ Refusal)
    → MovesAtWork at (λ old new. Did at old new (Increment id off by)
    (λ v. increments id off by) (HasSum id off by) result) (moved_by result)

abbrev pub PublishesMove : {M : Type 0} → (M → View → Type 0) → Type 0
PublishesMove at = (result : Result (Unit {0}) Refusal)
    → MovesAtWork at (λ old new. Published at old new result) (moved_by result)

abbrev pub LocksMove : {M : Type 0} → (M → View → Type 0) → Type 0
LocksMove at = (op : Operation) (wants : List Want) (result : Result (Unit {0}) Refusal)
    → MovesAtWork at (λ old new. DidLock at old new op wants result) (moved_by result)

-- ---- A LEVEL BEGINS: an inner one at work, the outermost one where none is open

abbrev pub begun_by : Option Refusal → Result (Unit {0}) Refusal → Position → Position
begun_by None (Ok done) p = record p { level = suc p.level }
begun_by None (Err r) p = moved_by {T = Unit {0}} (Err r) p
begun_by (Some refusal.NoTx) (Ok done) p = working 1
begun_by (Some refusal.NoTx) (Err refusal.Spent) p = p
begun_by (Some refusal.NoTx) (Err refusal.Stopped) p = at_stop p
begun_by (Some refusal.NoTx) (Err r) p = aborted_at (error.Refused r) 1
begun_by (Some r) result p = p

abbrev pub BeginsMove : {M : Type 0} → (M → View → Type 0) → Type 0
BeginsMove at = (wants : List Want) (result : Result (Unit {0}) Refusal)
    → MovesPosition at (λ old new. LevelBegun at old new wants result)
    (λ old p. begun_by (work_refusal old) result p)

-- ---- A LEVEL IS COMMITTED, or the transaction aborted: past its work, at the same level

abbrev pub committed_by : Result (Unit {0}) Refusal → Position → Position
committed_by (Ok done) p = record p { stage = stage.OnCommit }
committed_by result p = stopped_by result p

abbrev pub CommitsMove : {M : Type 0} → (M → View → Type 0) → Type 0
CommitsMove at = (result : Result (Unit {0}) Refusal)
    → MovesAtWork at (λ old new. LevelCommitted at old new result) (committed_by result)

abbrev pub aborted_by : ℕ → Result (Unit {0}) Refusal → Position → Position
aborted_by errnum (Ok done) p =
    record p { stage = stage.OnAbort; error = error_for errnum }
aborted_by errnum result p = stopped_by result p

abbrev pub AbortsMove : {M : Type 0} → (M → View → Type 0) → Type 0
AbortsMove at = (errnum : ℕ) (result : Result (Unit {0}) Refusal)
    → MovesAtWork at (λ old new. Aborted at old new errnum result) (aborted_by errnum result)

-- ---- THE NEXT STAGE: a level at work is committed, and past its work all but the stage stays

abbrev pub processed_by : {M : Type 0} → Stage → Lane M → Result (Unit {0}) Refusal → Position
    → Position
processed_by stage.Work old result p = unless_refused (work_refusal old) (committed_by result p) p
processed_by s old result p =
    unless_refused (end_refusal old) (record p { stage = next_stage s }) p

abbrev pub ProcessesMove : {M : Type 0} → (M → View → Type 0) → Type 0
ProcessesMove at = (result : Result (Unit {0}) Refusal)
    → MovesPosition at (λ old new. Processed at old new result)
    (λ old p. processed_by old.stage old result p)

-- ---- A LEVEL ENDS

-- with this error: the outermost one leaves the lane between two calls; an inner one the outer one
-- at work, or aborted for the same error
abbrev pub ended_at : TxErr → ℕ → Position → Position
ended_at e zero p = p
ended_at e (suc zero) p = resting
ended_at error.None (suc (suc n)) p = working (suc n)
ended_at e (suc (suc n)) p = aborted_at e (suc n)

abbrev pub ended_by : Result TxErr Refusal → Position → Position
ended_by (Ok e) p = ended_at e p.level p
ended_by (Err r) p = p

abbrev pub EndsMove : {M : Type 0} → (M → View → Type 0) → Type 0
EndsMove at = (result : Result TxErr Refusal)
    → MovesPosition at (λ old new. Ended at old new result)
    (λ old p. unless_refused (end_refusal old) (ended_by result p) p)

-- and where its stage does not refuse it, it returns the transaction's error
abbrev pub EndsReturnTheError : {M : Type 0} → (M → View → Type 0) → Type 0
EndsReturnTheError {M} at = (result : Result TxErr Refusal) (old new : Lane M) (h : LaneHistory)
    → StandsWith at old h → Ended at old new result → end_refusal old ≡ None
    → result ≡ Ok old.error
