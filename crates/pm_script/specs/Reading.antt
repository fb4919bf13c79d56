-- A script while it is read, line by line: for the crate's own functions.
use Rattle.std.specs.Prelude.{◌≡◌, ℕ, ◌<◌, List, [], ◌∷◌, ◌++◌, option_to_list, Option, Some, None, Result, Ok, Err, ⊤}
use Rattle.std.specs.List.{filter_map}
use Rattle.pm_script.specs.Contexts.{Context, start}
use Rattle.pm_script.specs.Grammar.{form, form_tests, keyword_of, place_said, statement_of}
use Rattle.pm_script.specs.Scripts.{Line, fault_of, context_after, context_behind, line_of, line_said, lines_from, faults, left, first_failed, place_tests}
use Rattle.pm_script.specs.declared.fault.BadLine.{BadLine}
use Rattle.pm_script.specs.declared.fault.LineFault.{LineFault}
use Rattle.pm_script.specs.declared.fault.LineFault.TheVariants.{Bad, Memory}
use Rattle.pm_script.specs.declared.fault.ScriptFault.{ScriptFault}
use Rattle.pm_script.specs.declared.fault.ScriptFault.TheVariants as script_fault
use Rattle.pm_script.specs.declared.fault.Why.{Why}
use Rattle.pm_script.specs.declared.fault.Why.TheVariants.{Word}
use Rattle.pm_script.specs.declared.reader.Reader.{Reader}
use Rattle.pm_script.specs.declared.script.Place.{Place}
use Rattle.pm_script.specs.declared.statement.Keyword.{Keyword}
use Rattle.pm_script.specs.declared.statement.Statement.{Statement}
use Rattle.pm_script.specs.declared.statement.Statement.TheVariants as says

-- why a line is bad for these operands
abbrev pub form_why : Context → Keyword → List (List ℕ) → Option Why
form_why context keyword operands = first_failed (form_tests context (form keyword) operands)

-- why it is bad in its place
abbrev pub place_why : Context → Option Place → Option Why
place_why context place = first_failed (place_tests context place)

-- the operands were read as what they say, or their fault was found
abbrev pub IsReadAs : Context → Keyword → List (List ℕ) → Result Statement LineFault → Type 0
IsReadAs context keyword operands (Ok statement) = (statement_of context keyword operands ≡ Some statement) × (form_why context keyword operands ≡ None)
IsReadAs context keyword operands (Err (Bad why)) = form_why context keyword operands ≡ Some why
IsReadAs context keyword operands (Err (Memory error)) = ⊤

-- the same behind a first word that asks for this, or is none of a script's
abbrev pub AreReadBehind : Context → Option Keyword → List (List ℕ) → Result Statement LineFault → Type 0
AreReadBehind context (Some keyword) operands result = IsReadAs context keyword operands result
AreReadBehind context None operands result = result ≡ Err (Bad Word)

-- the same of a line's words
abbrev pub AreReadAs : Context → List (List ℕ) → Result Statement LineFault → Type 0
AreReadAs context [] result = ⊥
AreReadAs context (word ∷ operands) result = AreReadBehind context (keyword_of word) operands result

-- a lane that is named is one of the 32
abbrev pub HasLane : Statement → Type 0
HasLane (says.Lane lane) = lane < 32
HasLane (says.Operation operation) = ⊤

-- what line n says was taken
pub record Takes (old new : Reader) (n : ℕ) (statement : Statement) : Type 0 where
  pub in_place : place_why old.context (place_said statement) ≡ None
  pub context : new.context ≡ context_behind old.context n (Some statement)
  pub said : new.lines.items ≡ old.lines.items ++ option_to_list (line_said old.context n statement)

-- what line n says is out of place
abbrev pub IsOutOfPlace : Reader → ℕ → Statement → BadLine → Type 0
IsOutOfPlace old n statement bad = (bad.line ≡ n) × (place_why old.context (place_said statement) ≡ Some bad.why)

-- the fault of a line with the number n
abbrev pub fault_at : LineFault → ℕ → ScriptFault
fault_at (Bad why) n = script_fault.Bad (record { line = n; why = why })
fault_at (Memory error) n = script_fault.Memory error

-- a line behind what was read
abbrev pub next_line : Reader → ℕ → List ℕ → Line
next_line reader n text = record { number = n; context = reader.context; text = text }

-- one more line was read, and is not bad
pub record Reads (old new : Reader) (line : Line) : Type 0 where
  pub good : fault_of line ≡ None
  pub context : new.context ≡ context_after line
  pub said : new.lines.items ≡ old.lines.items ++ option_to_list (line_of line)

-- these lines were read, and none is bad
pub record HasRead (reader : Reader) (lines : List (List ℕ)) : Type 0 where
  pub good : faults lines ≡ []
  pub context : reader.context ≡ left lines
  pub said : reader.lines.items ≡ filter_map line_of (lines_from start 1 lines)
