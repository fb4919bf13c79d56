-- A LANE IN THE STAGES AFTER WORK: a level was committed, or the transaction was aborted; and what the end of the level leaves.
use Rattle.std.specs.Prelude.{◌≡◌, ◌≢◌, ℕ, zero, suc, ◌==◌, ◌≤◌, false, if◌then◌else◌, [], Option, Some, None, Result, Ok, Err}
use Rattle.pm_model.specs.Transaction.{is_working}
use Rattle.pm_model.specs.declared.stage.Stage.{Stage}
use Rattle.pm_model.specs.declared.stage.Stage.TheVariants as stage
use Rattle.pm_objects.specs.declared.calls.Operation.{Operation}
use Rattle.pm_objects.specs.declared.history.TxErr.{TxErr}
use Rattle.pm_objects.specs.declared.history.TxErr.TheVariants as error
use Rattle.pm_objects.specs.declared.history.Value.{Value}
use Rattle.pm_objects.specs.declared.refusal.Refusal.{Refusal}
use Rattle.pm_objects.specs.declared.refusal.Refusal.TheVariants as refusal
use Rattle.pm_view.specs.View.{View}
use Rattle.pm_view.specs.Views.{after_all}
use Rattle.pm_world.specs.LaneFields.{Fields, IsSeenAs, Rests, Standing, Works, fields_at}
use Rattle.pm_world.specs.declared.lane.Lane.{Lane}
use Rattle.pm_lock.specs.Steps.{gives}
use Rattle.pm_call.specs.At.{At, IsAt}
use Rattle.pm_call.specs.Did.{IsOver, next}
use Rattle.pm_call.specs.GivenUp.{WasGivenUp}
use Rattle.pm_call.specs.Plans.{gives_up}

-- ---- AFTER WORK

-- the fields of a lane at such a stage, with the transaction's error
abbrev pub fields_past : Stage → TxErr → Standing → Fields
fields_past stage e s = record (fields_at stage s) { error = e }

-- WHAT A LEVEL LEAVES OF THE CALL: committed inside of another level, that one's transaction is at work; else the call is over, and lists no entry
abbrev pub Leaves : TxErr → ℕ → Standing → Type 0
Leaves error.None (suc (suc n)) s = IsAt s (suc n)
Leaves e level s = IsOver s × (s.entries ≡ [])

pub record IsPast (s : Standing) (stage : Stage) (e : TxErr) : Type 0 where
  pub past : is_working stage ≡ false
  pub some : 1 ≤ s.level
  pub most : s.level ≤ 64
  pub leaves : Leaves e s.level s

-- the lane is past the work of a level
pub record IsPastAt {M : Type 0} (at : M → View → Type 0) (lane : Lane M) (s : Standing) (stage : Stage) (e : TxErr) : Type 0 where
  pub sees : IsSeenAs at lane s.view (fields_past stage e s)
  pub past : IsPast s stage e

pub record IsLanePast {M : Type 0} (at : M → View → Type 0) (lane : Lane M) : Type 0 where
  pub standing : Standing
  pub stage : Stage
  pub error : TxErr
  pub stands : IsPastAt at lane standing stage error

-- a call that was given up is past its work, with nothing listed to be logged: so its level may end
abbrev pub unlisted : Standing → Standing
unlisted s = record s { entries = [] }

abbrev pub GivenUpArePast : {M : Type 0} → (M → View → Type 0) → Type 0
GivenUpArePast {M} at = (lane : Lane M) (s : Standing) (op : Operation) (reply : Option Value) (e : TxErr) → At s → e ≢ error.None → (up : WasGivenUp at lane s op reply e)
    → IsPastAt at lane (unlisted (next s (gives_up op reply up.number))) stage.OnAbort e

-- ---- STAGE BY STAGE

-- the stage after one that is past work
abbrev pub next_stage : Stage → Stage
next_stage stage.OnCommit = stage.Finally
next_stage stage.OnAbort = stage.Finally
next_stage stage.Finally = stage.None
next_stage s = s

-- ---- THE END OF A LEVEL

-- why it is refused, if it is
abbrev pub stage_end_refusal : Stage → ℕ → Option Refusal
stage_end_refusal stage.Work level = if level == 0 then Some refusal.NoTx else Some refusal.InTx
stage_end_refusal s level = if level == 0 then Some refusal.NoTx else None

abbrev pub end_refusal : {M : Type 0} → Lane M → Option Refusal
end_refusal lane = if lane.stopped then Some refusal.Stopped else stage_end_refusal lane.stage lane.level

-- the lane's data at another level; and with all of its locks given back
abbrev pub at_level : ℕ → Standing → Standing
at_level n s = record s { level = n }

abbrev pub closed : Standing → Standing
closed s = record s { view = after_all s.view (gives s.locks); locks = []; level = 0 }

-- BETWEEN TWO CALLS: none is open, and the lane holds no lock
pub record IsBetween (s : Standing) : Type 0 where
  pub over : IsOver s
  pub unlocked : s.locks ≡ []
  pub unlisted : s.entries ≡ []

-- THE LEVEL ENDED: the outermost one gave the locks back; an inner one left the outer one at work, or aborted with it
abbrev pub EndedAs : {M : Type 0} → (M → View → Type 0) → Lane M → TxErr → ℕ → Standing → Type 0
EndedAs at lane e zero s = ⊥
EndedAs at lane e (suc zero) s = Rests at lane (closed s) × IsBetween (closed s)
EndedAs at lane error.None (suc (suc n)) s = Works at lane (at_level (suc n) s) × At (at_level (suc n) s)
EndedAs at lane e (suc (suc n)) s = IsPastAt at lane (at_level (suc n) s) stage.OnAbort e

-- THE END: refused for its stage it changes nothing; else it returns the transaction's error
abbrev pub EndedBy : {M : Type 0} → (M → View → Type 0) → Lane M → Result TxErr Refusal → TxErr → Standing → Type 0
EndedBy at lane (Ok answer) e s = (answer ≡ e) × EndedAs at lane e s.level s
EndedBy at lane (Err r) e s = ⊥

abbrev pub EndedSo : {M : Type 0} → Option Refusal → (M → View → Type 0) → Lane M → Lane M → Result TxErr Refusal → Type 0
EndedSo (Some r) at old new result = (result ≡ Err r) × (new ≡ old)
EndedSo None at old new result = (s : Standing) (stage : Stage) (e : TxErr) → IsPastAt at old s stage e → EndedBy at new result e s

unfoldable pub Ended : {M : Type 0} → (M → View → Type 0) → Lane M → Lane M → Result TxErr Refusal → Type 0
Ended at old new result = EndedSo (end_refusal old) at old new result
