-- A script while it is read, line by line: for the crate's own functions.
use Rattle.std.specs.Prelude.{◌≡◌, ℕ, ◌<◌, List, [], ◌∷◌, ◌++◌, option_to_list, Option, Some, None, Result, Ok, Err, ⊤}
use Rattle.std.specs.List.{filter_map}
use Rattle.solo_script.specs.Contexts.{Context, start}
use Rattle.solo_script.specs.Scripts.{Line, fault_of, context_after, context_behind, line_of, line_said, lines_from, faults, left, first_failed, form_tests, place_tests, keyword_of, statement_of}
use Rattle.solo_script.specs.declared.fault.BadLine.{BadLine}
use Rattle.solo_script.specs.declared.fault.LineFault.{LineFault}
use Rattle.solo_script.specs.declared.fault.LineFault.TheVariants.{Bad, Memory}
use Rattle.solo_script.specs.declared.fault.ScriptFault.{ScriptFault}
use Rattle.solo_script.specs.declared.fault.ScriptFault.TheVariants as script_fault
use Rattle.solo_script.specs.declared.fault.Why.{Why}
use Rattle.solo_script.specs.declared.fault.Why.TheVariants.{Word}
use Rattle.solo_script.specs.declared.reader.Reader.{Reader}
use Rattle.solo_script.specs.declared.script.ScriptOp.TheVariants as op
use Rattle.solo_script.specs.declared.statement.Keyword.{Keyword}
use Rattle.solo_script.specs.declared.statement.Keyword.TheVariants.{Lane, Begin, Add, Write, Read, Alloc, Free, Reserve, Put, Defer, Set, Publish, Cancel, Commit}
use Rattle.solo_script.specs.declared.statement.Statement.{Statement}
use Rattle.solo_script.specs.declared.statement.Statement.TheVariants as says

-- why a line is bad for these operands
abbrev pub form_why : Context → Keyword → List (List ℕ) → Option Why
form_why context keyword operands = first_failed (form_tests context keyword operands)

-- why it is bad in its place
abbrev pub place_why : Context → Keyword → Option Why
place_why context keyword = first_failed (place_tests context keyword)

-- the operands were read as what they say, or their fault was found
abbrev pub IsReadAs : Context → Keyword → List (List ℕ) → Result Statement LineFault → Type 0
IsReadAs context keyword operands (Ok statement) = (statement_of context keyword operands ≡ Some statement) × (form_why context keyword operands ≡ None)
IsReadAs context keyword operands (Err (Bad why)) = form_why context keyword operands ≡ Some why
IsReadAs context keyword operands (Err (Memory error)) = ⊤

-- the same behind a first word that asks for this, or is none of a script's
abbrev pub AreReadBehind : Context → Option Keyword → List (List ℕ) → Result Statement LineFault → Type 0
AreReadBehind context (Some keyword) operands result = IsReadAs context keyword operands result
AreReadBehind context None operands result = result ≡ Err (Bad Word)

-- the same of a line's words
abbrev pub AreReadAs : Context → List (List ℕ) → Result Statement LineFault → Type 0
AreReadAs context [] result = ⊥
AreReadAs context (word ∷ operands) result = AreReadBehind context (keyword_of word) operands result

-- the first word of a line that says this
abbrev pub keyword_said : Statement → Keyword
keyword_said (says.Lane lane) = Lane
keyword_said (says.Operation (op.Begin wants)) = Begin
keyword_said (says.Operation (op.Add id off len)) = Add
keyword_said (says.Operation (op.Write id off bytes)) = Write
keyword_said (says.Operation (op.Read id off len)) = Read
keyword_said (says.Operation (op.Alloc letter size kind)) = Alloc
keyword_said (says.Operation (op.Free id)) = Free
keyword_said (says.Operation (op.Reserve letter size kind)) = Reserve
keyword_said (says.Operation (op.WriteReserved id off bytes)) = Put
keyword_said (says.Operation (op.DeferFree id)) = Defer
keyword_said (says.Operation (op.Set id off value)) = Set
keyword_said (says.Operation op.Publish) = Publish
keyword_said (says.Operation op.Cancel) = Cancel
keyword_said (says.Operation op.Commit) = Commit

-- a lane that is named is one of the 32
abbrev pub HasLane : Statement → Type 0
HasLane (says.Lane lane) = lane < 32
HasLane (says.Operation operation) = ⊤

-- what line n says was taken
pub record Takes (old new : Reader) (n : ℕ) (statement : Statement) : Type 0 where
  pub in_place : place_why old.context (keyword_said statement) ≡ None
  pub context : new.context ≡ context_behind old.context n (Some statement)
  pub said : new.lines.items ≡ old.lines.items ++ option_to_list (line_said old.context n statement)

-- what line n says is out of place
abbrev pub IsOutOfPlace : Reader → ℕ → Statement → BadLine → Type 0
IsOutOfPlace old n statement bad = (bad.line ≡ n) × (place_why old.context (keyword_said statement) ≡ Some bad.why)

-- the fault of a line with the number n
abbrev pub fault_at : LineFault → ℕ → ScriptFault
fault_at (Bad why) n = script_fault.Bad (record { line = n; why = why })
fault_at (Memory error) n = script_fault.Memory error

-- a line behind what was read
abbrev pub next_line : Reader → ℕ → List ℕ → Line
next_line reader n text = record { number = n; context = reader.context; text = text }

-- one more line was read, and is not bad
pub record Reads (old new : Reader) (line : Line) : Type 0 where
  pub good : fault_of line ≡ None
  pub context : new.context ≡ context_after line
  pub said : new.lines.items ≡ old.lines.items ++ option_to_list (line_of line)

-- these lines were read, and none is bad
pub record HasRead (reader : Reader) (lines : List (List ℕ)) : Type 0 where
  pub good : faults lines ≡ []
  pub context : reader.context ≡ left lines
  pub said : reader.lines.items ≡ filter_map line_of (lines_from start 1 lines)
