-- WHAT A COMMIT DID to its lane, by cases of the level and of what it answers.
use Rattle.std.specs.Prelude.{◌≡◌, ℕ, zero, suc, true, Option, Some, None, Result, Ok, Err}
use Rattle.pm_model.specs.declared.stage.Stage.{Stage}
use Rattle.pm_model.specs.declared.stage.Stage.TheVariants as stage
use Rattle.pm_objects.specs.declared.calls.Operation.TheVariants.{Commit}
use Rattle.pm_objects.specs.declared.history.TxErr.{TxErr}
use Rattle.pm_objects.specs.declared.history.TxErr.TheVariants as error
use Rattle.pm_objects.specs.declared.refusal.Refusal.{Refusal}
use Rattle.pm_objects.specs.declared.refusal.Refusal.TheVariants as refusal
use Rattle.pm_view.specs.View.{View}
use Rattle.pm_world.specs.LaneFields.{Standing, Works}
use Rattle.pm_world.specs.declared.lane.Lane.{Lane}
use Rattle.pm_call.specs.At.{At}
use Rattle.pm_call.specs.Commits.{CommitCut, WasCommitted}
use Rattle.pm_call.specs.Did.{After, IsUnrefused, next, work_refusal}
use Rattle.pm_call.specs.Plans.{commits_inner}
use Rattle.pm_call.specs.Stages.{IsPastAt, end_refusal, next_stage}

-- the outermost level: once the lane has looked at the words that it published, the call is committed, or the lane stopped on the way
abbrev pub OutermostEnds : {M : Type 0} → (M → View → Type 0) → Lane M → Result (Unit {0}) Refusal → Standing → Type 0
OutermostEnds at lane (Ok done) s = WasCommitted at lane s
OutermostEnds at lane (Err refusal.Stopped) s = CommitCut at lane s true
OutermostEnds at lane (Err r) s = ⊥

-- an inner level is only told
abbrev pub InnerEnds : {M : Type 0} → (M → View → Type 0) → Lane M → Result (Unit {0}) Refusal → Standing → Type 0
InnerEnds at lane (Ok done) s = IsUnrefused s Commit × IsPastAt at lane (next s commits_inner) stage.OnCommit error.None
InnerEnds at lane (Err r) s = ⊥

abbrev pub LevelEnds : {M : Type 0} → (M → View → Type 0) → Lane M → Result (Unit {0}) Refusal → ℕ → Standing → Type 0
LevelEnds at lane result (suc zero) s = After s (OutermostEnds at lane result)
LevelEnds at lane result level s = InnerEnds at lane result s

-- A COMMIT: refused for its stage it changes nothing
abbrev pub LevelCommittedSo : {M : Type 0} → Option Refusal → (M → View → Type 0) → Lane M → Lane M → Result (Unit {0}) Refusal → Type 0
LevelCommittedSo (Some r) at old new result = (result ≡ Err r) × (new ≡ old)
LevelCommittedSo None at old new result = (s : Standing) → Works at old s → At s → LevelEnds at new result s.level s

unfoldable pub LevelCommitted : {M : Type 0} → (M → View → Type 0) → Lane M → Lane M → Result (Unit {0}) Refusal → Type 0
LevelCommitted at old new result = LevelCommittedSo (work_refusal old) at old new result

-- ---- STAGE BY STAGE: at work the level is committed; past it the next stage is reached, and all else stays

abbrev pub PassedSo : {M : Type 0} → Option Refusal → (M → View → Type 0) → Lane M → Lane M → Result (Unit {0}) Refusal → Type 0
PassedSo (Some r) at old new result = (result ≡ Err r) × (new ≡ old)
PassedSo None at old new result = (s : Standing) (before : Stage) (e : TxErr) → IsPastAt at old s before e → (result ≡ Ok tt) × IsPastAt at new s (next_stage before) e

abbrev pub ProcessedFrom : {M : Type 0} → Stage → (M → View → Type 0) → Lane M → Lane M → Result (Unit {0}) Refusal → Type 0
ProcessedFrom stage.Work at old new result = LevelCommitted at old new result
ProcessedFrom s at old new result = PassedSo (end_refusal old) at old new result

unfoldable pub Processed : {M : Type 0} → (M → View → Type 0) → Lane M → Lane M → Result (Unit {0}) Refusal → Type 0
Processed at old new result = ProcessedFrom old.stage at old new result
