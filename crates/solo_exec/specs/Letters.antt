-- What the letters of a script stand for: docs/COMMANDS.md, "Scripts". A letter is read as the line that binds it, so what that line gave is what it stands for.
use Rattle.std.specs.Prelude.{◌≡◌, ℕ, ◌<◌, ◌≤◌, ◌==◌, Bool, All, Contains, List, [], ◌∷◌, ◌++◌, map, Option, None, Some, Result, Err, ⊤}
use Rattle.std.specs.List.{filter_map, find}
use Rattle.std.specs.Option.{option_map, option_map_or}
use Rattle.pm_objects.specs.declared.history.Entry.{Entry}
use Rattle.pm_objects.specs.declared.history.Value.{Value}
use Rattle.pm_objects.specs.declared.history.Value.TheVariants.{Offset}
use Rattle.solo_script.specs.Scripts.{NamesEarlierLines}
use Rattle.solo_script.specs.declared.script.ScriptId.{ScriptId}
use Rattle.solo_script.specs.declared.script.ScriptId.TheVariants.{At, Bound}
use Rattle.solo_script.specs.declared.script.ScriptLine.{ScriptLine}
use Rattle.solo_script.specs.declared.script.ScriptOp.{ScriptOp}
use Rattle.solo_script.specs.declared.script.ScriptOp.TheVariants.{Begin, Add, Write, Read, Free, WriteReserved, DeferFree, Set}
use Rattle.solo_script.specs.declared.script.ScriptWant.{ScriptWant}
use Rattle.pm_text.specs.declared.report.LaneEnd.{LaneEnd}
use Rattle.pm_text.specs.declared.report.LaneEnd.TheVariants as end
use Rattle.solo_exec.specs.declared.lines.NotDone.{NotDone}
use Rattle.solo_exec.specs.declared.lines.NotDone.TheVariants.{Memory}
use Rattle.solo_exec.specs.declared.running.Halt.{Halt}

-- offsets that lines gave, each with the line's number
abbrev pub Offsets : Type 0
Offsets = List (ℕ × ℕ)

-- those among the values that lines gave
abbrev pub offset_in : ℕ × Value → Option (ℕ × ℕ)
offset_in (line, Offset off) = Some (line, off)
offset_in (line, value) = None

unfoldable pub offsets_in : List (ℕ × Value) → Offsets
offsets_in values = filter_map offset_in values

-- those of the calls of a history
unfoldable pub offsets_of : List Entry → Offsets
offsets_of [] = []
offsets_of (e ∷ history) = offsets_in e.reply.values ++ offsets_of history

-- the offset that a line gave, if it gave one
abbrev pub is_of_line : ℕ → ℕ × ℕ → Bool
is_of_line line given = given.0 == line

abbrev pub offset_given : Offsets → ℕ → Option ℕ
offset_given given line = option_map (λ (g : ℕ × ℕ). g.1) (find (is_of_line line) given)

-- an id with the offset in its letter's place; a letter that stands for nothing stays
abbrev pub resolved_id : Offsets → ScriptId → ScriptId
resolved_id given (Bound line) = option_map_or At (offset_given given line) (Bound line)
resolved_id given id = id

abbrev pub resolved_want : Offsets → ScriptWant → ScriptWant
resolved_want given want = record want { id = resolved_id given want.id }

abbrev pub resolved_op : Offsets → ScriptOp → ScriptOp
resolved_op given (Begin wants) = Begin (map (resolved_want given) wants)
resolved_op given (Add id off len) = Add (resolved_id given id) off len
resolved_op given (Write id off bytes) = Write (resolved_id given id) off bytes
resolved_op given (Read id off len) = Read (resolved_id given id) off len
resolved_op given (Free id) = Free (resolved_id given id)
resolved_op given (WriteReserved id off bytes) = WriteReserved (resolved_id given id) off bytes
resolved_op given (DeferFree id) = DeferFree (resolved_id given id)
resolved_op given (Set id off value) = Set (resolved_id given id) off value
resolved_op given op = op

-- a line, and lines, with the offsets in the places of their letters
abbrev pub resolved_line : Offsets → ScriptLine → ScriptLine
resolved_line given line = record line { operation = resolved_op given line.operation }

abbrev pub resolved : Offsets → List ScriptLine → List ScriptLine
resolved given lines = map (resolved_line given) lines

-- of the lines of the history's calls, and of those before them, the offsets are what the history says
abbrev pub AreTold : List Entry → Offsets → Type 0
AreTold history given = (e : Entry) (line : ℕ) → Contains history e → line ≤ e.call.last → offset_given given line ≡ offset_given (offsets_of history) line

-- these are the offsets that a run's lines gave: those of its history's calls, and of the call in which the lane stopped, if that drew no number
pub record AreGiven (history : List Entry) (ended : LaneEnd) (given : Offsets) : Type 0 where
  pub rest : Offsets
  pub are : given ≡ offsets_of history ++ rest
  pub told : AreTold history given
  pub whole : ((calls : ℕ) → ended ≡ end.Stopped calls → ⊥) → rest ≡ []

-- ---- for the crate's own functions

-- each line names earlier lines alone, and stands before those behind it
abbrev pub AreInOrder : List ScriptLine → Type 0
AreInOrder [] = ⊤
AreInOrder (line ∷ lines) = NamesEarlierLines line × All (λ (other : ScriptLine). line.line < other.line) lines × AreInOrder lines

-- the letters of a line that stands behind none of these stand for the same, whether these offsets were given or those
abbrev pub KeepsGiven : List ScriptLine → Offsets → Offsets → Type 0
KeepsGiven lines old new =
    (line : ScriptLine) → NamesEarlierLines line → All (λ (other : ScriptLine). line.line ≤ other.line) lines → resolved_line new line ≡ resolved_line old line

-- so it is behind any that were given, whether these values were given or those
abbrev pub KeepsLetters : List ScriptLine → List (ℕ × Value) → List (ℕ × Value) → Type 0
KeepsLetters lines old new = (given : Offsets) → KeepsGiven lines (given ++ offsets_in old) (given ++ offsets_in new)

-- so it is, unless there was no memory
abbrev pub LettersKept : {T : Type 0} → List ScriptLine → List (ℕ × Value) → List (ℕ × Value) → Result T NotDone → Type 0
LettersKept lines old new (Err (Memory e)) = ⊤
LettersKept lines old new result = KeepsLetters lines old new

-- where the run came to its end so, these offsets were given: behind those of the history those of the call in which the lane stopped, if it did
pub record AreGivenTo (history : List Entry) (halt : Halt) (given : Offsets) : Type 0 where
  pub rest : Offsets
  pub are : given ≡ offsets_of history ++ rest
  pub opened : (e : Entry) → halt.is_open ≡ Some e → rest ≡ offsets_in e.reply.values
  pub none : ((calls : ℕ) → halt.end ≡ end.Stopped calls → ⊥) → rest ≡ []

-- so they are, whether it came to its end or not
abbrev pub AreGivenBy : List Entry → Option Halt → Offsets → Type 0
AreGivenBy history None given = given ≡ offsets_of history
AreGivenBy history (Some halt) given = AreGivenTo history halt given
