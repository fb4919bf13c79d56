-- WHICH WAY A SCRIPT RUNS: docs/COMMANDS.md, "Scripts".
use Rattle.std.specs.Prelude.{◌≡◌, ◌⊎◌, ℕ, ◌≤◌, All, List, Some, ⊤}
use Rattle.pm_calls.specs.Calls.{RunsOnLanes, beyond_lanes}
use Rattle.pm_script.specs.Scripts.{IsBadLine, IsScript}
use Rattle.pm_script.specs.declared.fault.BadLine.{BadLine}
use Rattle.pm_script.specs.declared.fault.Why.TheVariants.{Word}
use Rattle.pm_script.specs.declared.script.Script.{Script}
use Rattle.solo_script.specs.Scripts.{IsScript as IsOneLaneScript}
use Rattle.solo_script.specs.declared.script.Script.{Script as OneLaneScript}
use Rattle.pm_commands.specs.declared.failure.Failure.{Failure}
use Rattle.pm_commands.specs.declared.failure.Failure.TheVariants.{BadScript, NoMemory}
use Rattle.pm_commands.specs.declared.ways.Way.{Way}
use Rattle.pm_commands.specs.declared.ways.Way.TheVariants as way

-- a script of one lane, in the words that a single lane runs
abbrev pub IsOneLane : List (List ℕ) → OneLaneScript → Type 0
IsOneLane lines script = IsOneLaneScript lines script × (script.lanes ≤ 1)

-- every other script in the words that lanes run
pub record IsOnLanes (lines : List (List ℕ)) (script : Script) : Type 0 where
  pub is_script : IsScript lines script
  pub runs : All RunsOnLanes script.lines
  pub not_one : (one : OneLaneScript) → ¬ IsOneLane lines one

abbrev pub IsWay : List (List ℕ) → Way → Type 0
IsWay lines (way.OneLane script) = IsOneLane lines script
IsWay lines (way.Lanes script) = IsOnLanes lines script

-- the text is a script that runs, one way or the other
abbrev pub HasWay : List (List ℕ) → Type 0
HasWay lines = ((script : OneLaneScript) × IsOneLane lines script)
    ⊎ ((script : Script) × IsOnLanes lines script)

-- THE LINE FOR WHICH IT DOES NOT: its first bad line; or, where no line is bad, the first with a word
-- that lanes do not run
pub record IsRefusedLine (lines : List (List ℕ)) (bad : BadLine) : Type 0 where
  pub not_one : (one : OneLaneScript) → ¬ IsOneLane lines one
  pub is : IsBadLine lines bad
      ⊎ ((script : Script) × IsScript lines script
      × (beyond_lanes script.lines ≡ Some bad.line) × (bad.why ≡ Word))

abbrev pub IsScriptFault : List (List ℕ) → Failure → Type 0
IsScriptFault lines (BadScript bad) = IsRefusedLine lines bad
IsScriptFault lines NoMemory = ⊤
IsScriptFault lines failure = ⊥
