-- Where no line is beyond lanes, lanes run each.
use Rattle.std.proofs.Common.{◌≡◌, Bool, true, false, not, cond, List, [], ◌∷◌, Option, Some, None, option_map, refl}
use Rattle.std.specs.List.{All, find}
use Rattle.std.proofs.lemmas.List.Elements.{All-cons, All-nil}
use Rattle.pm_script.specs.declared.script.ScriptLine.{ScriptLine}
use Rattle.pm_calls.specs.Calls.{RunsOnLanes, beyond_lanes, runs_on_lanes}

abbrev first_beyond : List ScriptLine → Option ScriptLine
first_beyond lines = find (λ (line : ScriptLine). not (runs_on_lanes line.operation)) lines

runs_first : (line : ScriptLine) (lines : List ScriptLine) (b : Bool) → runs_on_lanes line.operation ≡ b → option_map (λ (l : ScriptLine). l.line) (cond (not b) (Some line) (first_beyond lines)) ≡ None
    → (beyond_lanes lines ≡ None → All RunsOnLanes lines) → All RunsOnLanes (line ∷ lines)
runs_first line lines true is none rest = All-cons RunsOnLanes line lines is (rest none)
runs_first line lines false is none rest = cc

pub all_run : (lines : List ScriptLine) → beyond_lanes lines ≡ None → All RunsOnLanes lines
all_run [] none = All-nil RunsOnLanes
all_run (line ∷ lines) none = runs_first line lines (runs_on_lanes line.operation) refl none (all_run lines)
