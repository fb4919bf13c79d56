-- A script of one lane is of transactions, and calls outside of them, one after another.
use Rattle.std.proofs.Common.{◌≡◌, ℕ, ◌==◌, All, Bool, true, List, [], ◌∷◌, refl, ◌∙◌, ap, subst, if◌then◌else◌}
use Rattle.std.proofs.lemmas.List.Elements.{All-head, All-tail, All-weaker}
use Rattle.solo_script.specs.Scripts.{AreCalls, IsScript, NamesEarlierLines, of_lane, operations}
use Rattle.solo_script.specs.declared.script.Script.{Script}
use Rattle.solo_script.specs.declared.script.ScriptLine.{ScriptLine}
use Rattle.solo_script.proofs.BoundLetters.{NamesLines, letters_named}
use Rattle.solo_script.proofs.LaneCalls.{lane_calls}
use Rattle.solo_script.proofs.NamedLanes.{one_lane}

-- where each line is of lane 0, that has all lines
all_of_lane : (lines : List ScriptLine) → All (λ (line : ScriptLine). line.lane ≡ 0) lines → of_lane 0 lines ≡ lines
all_of_lane [] all = refl
all_of_lane (line ∷ lines) all =
    let here : (line.lane == 0) ≡ true = ap (λ (lane : ℕ). lane == 0) (All-head (λ (line : ScriptLine). line.lane ≡ 0) line lines all) in
    let more : of_lane 0 lines ≡ lines = all_of_lane lines (All-tail (λ (line : ScriptLine). line.lane ≡ 0) line lines all) in
    ap (λ (is : Bool). if is then line ∷ of_lane 0 lines else of_lane 0 lines) here ∙ ap (λ (others : List ScriptLine). line ∷ others) more

-- so the operations of a script of one lane are calls
pub calls_of_one_lane : (lines : List (List ℕ)) (script : Script) → IsScript lines script → script.lanes ≡ 1 → AreCalls (operations script.lines)
calls_of_one_lane lines script is one =
    subst (λ (said : List ScriptLine). AreCalls (operations said)) (all_of_lane script.lines (one_lane lines script is one)) (lane_calls lines script is 0)

-- and each letter of its lines stands for what an earlier line gave
pub letters_before : (lines : List (List ℕ)) (script : Script) → IsScript lines script → All NamesEarlierLines script.lines
letters_before lines script is = All-weaker (NamesLines script.lines) NamesEarlierLines (λ line names. names.0) script.lines (letters_named lines script is)
