-- Which scripts lanes run, and which a single lane.
use Rattle.std.proofs.Common.{◌≡◌, ℕ, Bool, true, false, not, cond, All, List, [], ◌∷◌, Option, Some, option_map, refl, sym, ap, ◌∙◌}
use Rattle.std.specs.List.{find}
use Rattle.std.proofs.lemmas.List.Elements.{All-head, All-tail}
use Rattle.pm_calls.specs.Calls.{RunsOnLanes, beyond_lanes, runs_on_lanes}
use Rattle.pm_script.specs.Scripts.{IsScript}
use Rattle.pm_script.specs.declared.script.Script.{Script}
use Rattle.pm_script.specs.declared.script.ScriptLine.{ScriptLine}

-- a text has one script
pub one_script : (lines : List (List ℕ)) (one other : Script) → IsScript lines one → IsScript lines other → one ≡ other
one_script lines one other is was =
    let said = is.lines_said ∙ sym was.lines_said in
    let named = is.lanes_named ∙ sym was.lanes_named in
    λ i. record { lines = said i; lanes = named i }

-- where lanes run each line, none is beyond them
first_runs : (line : ScriptLine) (b : Bool) (rest : Option ScriptLine) → runs_on_lanes line.operation ≡ b → b ≡ true → cond (not (runs_on_lanes line.operation)) (Some line) rest ≡ rest
first_runs line true rest is holds = ap (λ (c : Bool). cond (not c) (Some line) rest) is
first_runs line false rest is holds = cc

pub none_beyond : (lines : List ScriptLine) (n : ℕ) → All RunsOnLanes lines → beyond_lanes lines ≡ Some n → ⊥
none_beyond [] n runs is = cc
none_beyond (line ∷ lines) n runs is =
    none_beyond lines n (All-tail RunsOnLanes line lines runs)
    (ap (option_map (λ (l : ScriptLine). l.line)) (sym (first_runs line true (find (λ (l : ScriptLine). not (runs_on_lanes l.operation)) lines) (All-head RunsOnLanes line lines runs) refl)) ∙ is)
