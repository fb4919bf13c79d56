-- The calls that a script's lines make, over a pool: docs/COMMANDS.md, "Scripts".
use Rattle.std.specs.Prelude.{◌≡◌, ◌⊎◌, ℕ, ◌-◌, ◌||◌, Bool, true, false, if◌then◌else◌, List, [], ◌∷◌, length, map, slice_index, Option, Some, None}
use Rattle.std.specs.List.{list_any}
use Rattle.pm_objects.specs.declared.calls.Call.{Call}
use Rattle.pm_objects.specs.declared.calls.Operation.{Operation}
use Rattle.pm_objects.specs.declared.calls.Operation.TheVariants as operation
use Rattle.pm_objects.specs.declared.calls.Want.{Want}
use Rattle.pm_objects.specs.declared.ids.Oid.{Oid}
use Rattle.pm_objects.specs.declared.pool.PoolView.{PoolView}
use Rattle.solo_script.specs.declared.script.ScriptId.{ScriptId}
use Rattle.solo_script.specs.declared.script.ScriptId.TheVariants.{Root, At, Bound}
use Rattle.solo_script.specs.declared.script.ScriptLine.{ScriptLine}
use Rattle.solo_script.specs.declared.script.ScriptOp.{ScriptOp}
use Rattle.solo_script.specs.declared.script.ScriptOp.TheVariants.{Begin, Add, Write, Read, Alloc, Free, Reserve, WriteReserved, DeferFree, Set, Publish, Cancel, Commit}
use Rattle.solo_script.specs.declared.script.ScriptWant.{ScriptWant}
use Rattle.solo_exec.specs.declared.calls.Names.{Names}
use Rattle.solo_script.specs.Scripts.{IsTransaction}

-- the id at an offset of a pool; null where there is none
abbrev pub id_at : ℕ → Option ℕ → Oid
id_at pool None = record { pool = 0; off = 0 }
id_at pool (Some off) = record { pool = pool; off = off }

-- what the word `root` stands for
abbrev pub root_of : PoolView → Oid
root_of pool = id_at pool.id pool.root

-- what the ids of a script stand for
abbrev pub names_of : PoolView → Names
names_of pool = record { pool = pool.id; root = root_of pool }

-- a letter that stands for nothing is the null id
abbrev pub id_of : Names → ScriptId → Oid
id_of names Root = names.root
id_of names (At off) = record { pool = names.pool; off = off }
id_of names (Bound line) = record { pool = 0; off = 0 }

abbrev pub want_of : Names → ScriptWant → Want
want_of names want = record { id = id_of names want.id; write = want.write }

-- the operation that a line says
abbrev pub operation_of : Names → ScriptOp → Operation
operation_of names (Begin wants) = operation.Begin (map (want_of names) wants)
operation_of names (Add id off len) = operation.AddRange (id_of names id) off len
operation_of names (Write id off bytes) = operation.Write (id_of names id) off bytes
operation_of names (Read id off len) = operation.Read (id_of names id) off len
operation_of names (Alloc letter size kind) = operation.Alloc size kind
operation_of names (Free id) = operation.Free (id_of names id)
operation_of names (Reserve letter size kind) = operation.Reserve size kind
operation_of names (WriteReserved id off bytes) = operation.WriteReserved (id_of names id) off bytes
operation_of names (DeferFree id) = operation.DeferFree (id_of names id)
operation_of names (Set id off value) = operation.SetValue (id_of names id) off value
operation_of names Publish = operation.Publish
operation_of names Cancel = operation.Cancel
operation_of names Commit = operation.Commit

abbrev pub is_root : ScriptId → Bool
is_root Root = true
is_root (At off) = false
is_root (Bound line) = false

-- the line has the word `root`
abbrev pub has_root : ScriptOp → Bool
has_root (Begin wants) = list_any (λ (want : ScriptWant). is_root want.id) wants
has_root (Add id off len) = is_root id
has_root (Write id off bytes) = is_root id
has_root (Read id off len) = is_root id
has_root (Free id) = is_root id
has_root (WriteReserved id off bytes) = is_root id
has_root (DeferFree id) = is_root id
has_root (Set id off value) = is_root id
has_root op = false

-- what the word `root` stood for in these lines, where one has it
abbrev pub root_in : Names → List ScriptLine → Option ℕ
root_in names lines = if list_any (λ (line : ScriptLine). has_root line.operation) lines then Some names.root.off else None

-- the lines' numbers
abbrev pub numbers_of : List ScriptLine → List ℕ
numbers_of lines = map (λ (line : ScriptLine). line.line) lines

-- the call of lane 0 that these lines are
abbrev pub call_of : Names → List ScriptLine → Call
call_of names lines = record {
  lane = 0;
  first = slice_index (numbers_of lines) 0;
  last = slice_index (numbers_of lines) (length lines - 1);
  root = root_in names lines;
  operations = map (λ (line : ScriptLine). operation_of names line.operation) lines;
}

abbrev pub is_commit : ScriptOp → Bool
is_commit Commit = true
is_commit op = false

-- a line before the first of some calls
abbrev pub with_line : ScriptLine → List (List ScriptLine) → List (List ScriptLine)
with_line line [] = (line ∷ []) ∷ []
with_line line (first ∷ more) = (line ∷ first) ∷ more

-- what is a call of its own where no transaction is open
abbrev pub stands_alone : ScriptOp → Bool
stands_alone (Reserve letter size kind) = true
stands_alone (WriteReserved id off bytes) = true
stands_alone (DeferFree id) = true
stands_alone (Set id off value) = true
stands_alone Publish = true
stands_alone Cancel = true
stands_alone op = false

-- the first of some lines is such a call
abbrev pub starts_alone : List ScriptLine → Bool
starts_alone [] = false
starts_alone (line ∷ lines) = stands_alone line.operation

-- these operations are one call: a transaction, or one that stands alone
abbrev pub IsCall : List ScriptOp → Type 0
IsCall ops = IsTransaction ops ⊎ ((op : ScriptOp) × (ops ≡ op ∷ []) × (stands_alone op ≡ true))

-- the line is the last of its call, inside of a transaction or not: a transaction ends with its commit
abbrev pub ends_call : Bool → ScriptOp → Bool
ends_call true op = is_commit op
ends_call false op = is_commit op || stands_alone op

-- the lines of each call, of lines inside of a transaction or not
unfoldable pub call_lines_from : Bool → List ScriptLine → List (List ScriptLine)
call_lines_from inside [] = []
call_lines_from inside (line ∷ lines) =
    if ends_call inside line.operation then (line ∷ []) ∷ call_lines_from false lines else with_line line (call_lines_from true lines)

-- and of a script
abbrev pub call_lines : List ScriptLine → List (List ScriptLine)
call_lines lines = call_lines_from false lines

-- the calls that a script is, over a pool
abbrev pub script_calls : PoolView → List ScriptLine → List Call
script_calls pool script = map (call_of (names_of pool)) (call_lines script)
