-- THE LINES OF A CALL THAT RAN SO FAR, and the fate of a call of one operation.
use Rattle.std.specs.Prelude.{◌≡◌, ℕ, false, All, List, map, Option, Some, None}
use Rattle.pm_objects.specs.declared.history.Fate.{Fate}
use Rattle.pm_objects.specs.declared.history.Fate.TheVariants as fate
use Rattle.pm_objects.specs.declared.history.Value.{Value}
use Rattle.pm_objects.specs.declared.refusal.Refusal.{Refusal}
use Rattle.pm_model.specs.Shown.{aborts, values_of}
use Rattle.pm_view.specs.View.{Told}
use Rattle.pm_exec.specs.Answers.{ran_of, rans_of}
use Rattle.pm_calls.specs.Calls.{line_operation, numbers_of}
use Rattle.pm_calls.specs.declared.names.Names.{Names}
use Rattle.pm_script.specs.declared.script.ScriptLine.{ScriptLine}

-- the operation aborts nothing
abbrev pub IsPlain : Told → Type 0
IsPlain t = aborts (ran_of t) ≡ false

-- the lines of a call that ran so far: their operations as the lane told them, none of which
-- aborted, and the values that the lines gave
pub record GoesOn (names : Names) (front : List ScriptLine) (told : List Told)
    (values : List (ℕ × Value)) : Type 0 where
  pub operations : map (λ (t : Told). t.operation) told ≡ map (line_operation names) front
  pub plain : All IsPlain told
  pub gave : values ≡ values_of (numbers_of front) (rans_of told)

-- the fate of an answered call outside of a transaction, by what refused it
abbrev pub fate_of : Option Refusal → Fate
fate_of None = fate.Done
fate_of (Some r) = fate.Refused r
