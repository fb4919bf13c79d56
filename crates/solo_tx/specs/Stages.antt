-- Which calls of a transaction are refused for its stage alone.
use Rattle.std.specs.Prelude.{◌==◌, Bool, true, false, if◌then◌else◌, Option, Some, None}
use Rattle.pm_objects.specs.declared.history.TxErr.{TxErr}
use Rattle.pm_objects.specs.declared.history.TxErr.TheVariants as error
use Rattle.pm_objects.specs.declared.refusal.Refusal.{Refusal}
use Rattle.pm_objects.specs.declared.refusal.Refusal.TheVariants as refusal
use Rattle.solo_world.specs.declared.lane.Lane.{Lane}
use Rattle.solo_world.specs.declared.lane.Stage.{Stage}
use Rattle.solo_world.specs.declared.lane.Stage.TheVariants as stage

abbrev pub is_work : Stage → Bool
is_work stage.Work = true
is_work s = false

-- why a call that needs a transaction in work is refused, if it is
abbrev pub work_refusal : {M : Type 0} → Lane M → Option Refusal
work_refusal lane =
    if lane.stopped then Some refusal.Stopped else
    if lane.level == 0 then Some refusal.NoTx else
    if is_work lane.stage then None else Some refusal.NotWork

-- why the end of a level is refused, if it is
abbrev pub end_refusal : {M : Type 0} → Lane M → Option Refusal
end_refusal lane =
    if lane.stopped then Some refusal.Stopped else
    if lane.level == 0 then Some refusal.NoTx else
    if is_work lane.stage then Some refusal.InTx else None

-- the stage behind the end of an inner level: in work again, or aborted as it was
abbrev pub stage_behind : TxErr → Stage
stage_behind error.None = stage.Work
stage_behind e = stage.OnAbort
