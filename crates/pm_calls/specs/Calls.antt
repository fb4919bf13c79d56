-- THE CALLS THAT A LANE'S LINES ARE, over a pool: docs/COMMANDS.md, "Scripts".
use Rattle.std.specs.Prelude.{◌≡◌, ℕ, zero, suc, ◌-◌, ◌+◌, ◌≤◌, ◌==◌, Bool, true, false, not, if◌then◌else◌, List, [], ◌∷◌, length, map, slice_index, option_map, Option, Some, None}
use Rattle.std.specs.Borrow.{Bor}
use Rattle.std.specs.List.{find, list_any}
use Rattle.std.specs.List.Sorted.{IsStrictlyIncreasing}
use Rattle.std.specs.Option.{option_map_or}
use Rattle.pm_objects.specs.declared.calls.At.{At as ListPlace}
use Rattle.pm_objects.specs.declared.calls.Call.{Call}
use Rattle.pm_objects.specs.declared.calls.Dest.{Dest}
use Rattle.pm_objects.specs.declared.calls.Operation.{Operation}
use Rattle.pm_objects.specs.declared.calls.Operation.TheVariants as operation
use Rattle.pm_objects.specs.declared.calls.Want.{Want}
use Rattle.pm_objects.specs.declared.ids.Oid.{Oid}
use Rattle.pm_script.specs.Operations.{closes, ids_of, opens, place_of as place_of_op, stands_inside, stands_outside}
use Rattle.pm_script.specs.Scripts.{of_lane}
use Rattle.pm_script.specs.declared.script.ScriptAt.{ScriptAt}
use Rattle.pm_script.specs.declared.script.ScriptDest.{ScriptDest}
use Rattle.pm_script.specs.declared.script.ScriptId.{ScriptId}
use Rattle.pm_script.specs.declared.script.ScriptId.TheVariants.{Root, At, Bound}
use Rattle.pm_script.specs.declared.script.ScriptLine.{ScriptLine}
use Rattle.pm_script.specs.declared.script.ScriptOp.{ScriptOp}
use Rattle.pm_script.specs.declared.script.ScriptOp.TheVariants as op
use Rattle.pm_script.specs.declared.script.ScriptWant.{ScriptWant}
use Rattle.pm_calls.specs.declared.names.Names.{Names}

-- ---- A LINE, by a reference to it

abbrev pub line_of : Bor ScriptLine → ScriptLine
line_of said = said.now

-- ---- WHAT IDS STAND FOR

abbrev pub null_id : Oid
null_id = record { pool = 0; off = 0 }

-- a letter that stands for nothing is the null id; no line of a script over the table binds one
abbrev pub id_of : Names → ScriptId → Oid
id_of names Root = names.root
id_of names (At off) = record { pool = names.pool; off = off }
id_of names (Bound line) = null_id

abbrev pub want_of : Names → ScriptWant → Want
want_of names want = record { id = id_of names want.id; write = want.write }

abbrev pub dest_of : Names → ScriptDest → Dest
dest_of names dest = record { id = id_of names dest.id; off = dest.off }

abbrev pub list_place_of : Names → ScriptAt → ListPlace
list_place_of names at = record {
  dest = option_map_or (id_of names) at.dest null_id;
  before = at.before;
}

-- ---- THE OPERATION THAT A LINE SAYS

abbrev pub operation_of : Names → ScriptOp → Operation
operation_of names (op.Begin wants) = operation.Begin (map (want_of names) wants)
operation_of names (op.Lock want) = operation.Lock (want_of names want)
operation_of names (op.Add id off len) = operation.AddRange (id_of names id) off len
operation_of names (op.Write id off bytes) = operation.Write (id_of names id) off bytes
operation_of names (op.Read id off len) = operation.Read (id_of names id) off len
operation_of names (op.Increment id off by) = operation.Increment (id_of names id) off by
operation_of names (op.Alloc letter size kind) = operation.Alloc size kind
operation_of names (op.Free id) = operation.Free (id_of names id)
operation_of names (op.Reserve letter size kind) = operation.Reserve size kind
operation_of names (op.WriteReserved id off bytes) =
    operation.WriteReserved (id_of names id) off bytes
operation_of names (op.DeferFree id) = operation.DeferFree (id_of names id)
operation_of names (op.Set id off value) = operation.SetValue (id_of names id) off value
operation_of names op.Publish = operation.Publish
operation_of names op.Cancel = operation.Cancel
operation_of names op.Commit = operation.Commit
operation_of names (op.Abort errnum) = operation.Abort errnum
operation_of names (op.AllocTo letter dest size kind) =
    operation.AllocTo (dest_of names dest) size kind
operation_of names (op.ReallocAt letter dest size kind) =
    operation.ReallocAt (dest_of names dest) size kind
operation_of names (op.FreeAt dest) = operation.FreeAt (dest_of names dest)
operation_of names (op.UsableSize id) = operation.UsableSize (id_of names id)
operation_of names (op.TypeNumber id) = operation.TypeNumber (id_of names id)
operation_of names (op.Insert head at id) =
    operation.Insert (id_of names head) (list_place_of names at) (id_of names id)
operation_of names (op.InsertNew letter head at size kind) =
    operation.InsertNew (id_of names head) (list_place_of names at) size kind
operation_of names (op.Remove head id free) =
    operation.Remove (id_of names head) (id_of names id) free
operation_of names (op.MoveTo head new_head at id) =
    operation.MoveTo (id_of names head) (id_of names new_head) (list_place_of names at) (id_of names id)
operation_of names (op.Members head) = operation.Members (id_of names head)
operation_of names (op.Root size) = operation.Root size
operation_of names op.RootSize = operation.RootSize

abbrev pub line_operation : Names → ScriptLine → Operation
line_operation names line = operation_of names line.operation

-- ---- THE WORD `root`

abbrev pub is_root : ScriptId → Bool
is_root Root = true
is_root id = false

-- the line has it
abbrev pub has_root : ScriptLine → Bool
has_root line = list_any is_root (ids_of line.operation)

-- what it stood for in these lines, where one has it
abbrev pub root_in : Names → List ScriptLine → Option ℕ
root_in names lines = if list_any has_root lines then Some names.root.off else None

-- ---- THE CALL THAT LINES ARE

abbrev pub numbers_of : List ScriptLine → List ℕ
numbers_of lines = map (λ (line : ScriptLine). line.line) lines

abbrev pub call_of : Names → ℕ → List ScriptLine → Call
call_of names lane lines = record {
  lane = lane;
  first = slice_index (numbers_of lines) 0;
  last = slice_index (numbers_of lines) (length lines - 1);
  root = root_in names lines;
  operations = map (line_operation names) lines;
}

-- ---- WHICH LINES ARE ONE CALL: those up to the one after which no level is open

-- how many levels are open after an operation, with so many before it
abbrev pub level_behind : ℕ → ScriptOp → ℕ
level_behind level operation =
    if opens operation then level + 1 else (if closes operation then level - 1 else level)

-- a line before the first of some calls
abbrev pub with_line : ScriptLine → List (List ScriptLine) → List (List ScriptLine)
with_line line [] = (line ∷ []) ∷ []
with_line line (first ∷ more) = (line ∷ first) ∷ more

-- the lines of each call, of lines with so many levels open before them
unfoldable pub calls_from : ℕ → List ScriptLine → List (List ScriptLine)
calls_from level [] = []
calls_from level (line ∷ lines) =
    let left = level_behind level line.operation in
    if left == 0 then (line ∷ []) ∷ calls_from 0 lines else with_line line (calls_from left lines)

abbrev pub calls_of : List ScriptLine → List (List ScriptLine)
calls_of lines = calls_from 0 lines

-- those of a lane
abbrev pub calls_of_lane : ℕ → List ScriptLine → List (List ScriptLine)
calls_of_lane lane lines = calls_of (of_lane lane lines)

-- ---- A CALL IS WHOLE: each of its lines may stand where it does, a level is open after each but the
-- last, and none after that

-- an operation may stand where so many levels are open
abbrev pub stands_at : ℕ → ScriptOp → Bool
stands_at zero operation = stands_outside (place_of_op operation)
stands_at (suc level) operation = stands_inside (place_of_op operation)

unfoldable pub IsWholeFrom : ℕ → List ScriptLine → Type 0
IsWholeFrom level [] = ⊥
IsWholeFrom level (line ∷ []) =
    (stands_at level line.operation ≡ true) × (level_behind level line.operation ≡ 0)
IsWholeFrom level (line ∷ next ∷ lines) =
    (stands_at level line.operation ≡ true) × (1 ≤ level_behind level line.operation)
    × IsWholeFrom (level_behind level line.operation) (next ∷ lines)

abbrev pub IsWhole : List ScriptLine → Type 0
IsWhole lines = IsWholeFrom 0 lines

-- its lines rise
abbrev pub LinesRise : List ScriptLine → Type 0
LinesRise lines = IsStrictlyIncreasing (numbers_of lines)

-- ---- WHICH WORDS lanes over the table run
abbrev pub runs_on_lanes : ScriptOp → Bool
runs_on_lanes (op.Begin wants) = true
runs_on_lanes (op.Lock want) = true
runs_on_lanes (op.Add id off len) = true
runs_on_lanes (op.Write id off bytes) = true
runs_on_lanes (op.Read id off len) = true
runs_on_lanes (op.Increment id off by) = true
runs_on_lanes (op.Set id off value) = true
runs_on_lanes op.Publish = true
runs_on_lanes op.Cancel = true
runs_on_lanes op.Commit = true
runs_on_lanes (op.Abort errnum) = true
runs_on_lanes operation = false

abbrev pub RunsOnLanes : ScriptLine → Type 0
RunsOnLanes line = runs_on_lanes line.operation ≡ true

-- the first line that lanes do not run
abbrev pub beyond_lanes : List ScriptLine → Option ℕ
beyond_lanes lines =
    option_map (λ (line : ScriptLine). line.line)
    (find (λ (line : ScriptLine). not (runs_on_lanes line.operation)) lines)
