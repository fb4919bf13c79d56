-- Why a text is no script, as people read it: docs/COMMANDS.md.
use Rattle.std.specs.Prelude.{ℕ, List, ◌++◌, codes}
use Rattle.std.specs.Fmt.{decimal}
use Rattle.pm_script.specs.declared.fault.BadLine.{BadLine}
use Rattle.pm_script.specs.declared.fault.ScriptFault.{ScriptFault}
use Rattle.pm_script.specs.declared.fault.ScriptFault.TheVariants as script_fault
use Rattle.pm_script.specs.declared.fault.Why.{Why}
use Rattle.pm_script.specs.declared.fault.Why.TheVariants as why

-- why a line is bad
abbrev pub why_text : Why → List ℕ
why_text why.Text = codes "Text"
why_text why.Word = codes "Word"
why_text why.Count = codes "Count"
why_text why.Number = codes "Number"
why_text why.Hex = codes "Hex"
why_text why.Letter = codes "Letter"
why_text why.LaneNumber = codes "LaneNumber"
why_text why.NoLane = codes "NoLane"
why_text why.Inside = codes "Inside"
why_text why.Outside = codes "Outside"
why_text why.Open = codes "Open"

-- the script's first bad line
abbrev pub bad_line_text : BadLine → List ℕ
bad_line_text bad = codes "bad script line " ++ (decimal bad.line ++ (codes " " ++ why_text bad.why))

abbrev pub script_fault_text : ScriptFault → List ℕ
script_fault_text (script_fault.Bad bad) = bad_line_text bad
script_fault_text (script_fault.Memory error) = codes "no memory"
