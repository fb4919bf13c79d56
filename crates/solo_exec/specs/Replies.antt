-- What the operations of a call told, and so what its entry in the history says: docs/COMMANDS.md, "Reports".
use Rattle.std.specs.Prelude.{◌≡◌, ◌⊎◌, ℕ, false, List, [], ◌∷◌, ◌++◌, map, Option, None, Some, option_map, ⊤}
use Rattle.std.specs.List.{AllZip}
use Rattle.solo_crash.specs.Pending.{told_of as model_told}
use Rattle.solo_model.specs.Checks.{is_action}
use Rattle.solo_model.specs.Shown.{values_of}
use Rattle.pm_objects.specs.declared.calls.Operation.{Operation}
use Rattle.pm_objects.specs.declared.calls.Operation.TheVariants as operation
use Rattle.pm_objects.specs.declared.history.Entry.{Entry}
use Rattle.pm_objects.specs.declared.history.Reply.{Reply}
use Rattle.pm_objects.specs.declared.history.TxErr.{TxErr}
use Rattle.pm_objects.specs.declared.history.TxErr.TheVariants as error
use Rattle.pm_objects.specs.declared.history.Value.{Value}
use Rattle.pm_objects.specs.declared.history.Value.TheVariants.{Bytes, Offset, Refused}
use Rattle.pm_objects.specs.declared.refusal.Refusal.{Refusal}
use Rattle.solo_script.specs.declared.script.ScriptLine.{ScriptLine}
use Rattle.solo_script.specs.declared.script.ScriptOp.{ScriptOp}
use Rattle.solo_script.specs.declared.script.ScriptOp.TheVariants.{Alloc, DeferFree, Read, Reserve, Set, WriteReserved}
use Rattle.solo_view.specs.View.{Numbered, Told, View}
use Rattle.solo_exec.specs.Calls.{call_of, id_of, numbers_of, operation_of, starts_alone}
use Rattle.solo_exec.specs.Course.{IsOneLine}
use Rattle.solo_exec.specs.Histories.{settled_fate}
use Rattle.solo_exec.specs.declared.calls.Names.{Names}
use Rattle.solo_exec.specs.declared.ending.CallAnswer.{CallAnswer}
use Rattle.solo_exec.specs.declared.ending.CallAnswer.TheVariants as answer

-- what lines gave
abbrev pub Values : Type 0
Values = List (ℕ × Value)

-- an operation that was done without a value, and one that was refused so
abbrev pub done : Operation → Told
done op = record { operation = op; reply = None }

abbrev pub refused : Operation → Refusal → Told
refused op r = record { operation = op; reply = Some (Refused r) }

-- the operation was done without a value, or refused, which aborts nothing
abbrev pub IsToldOrRefused : Operation → Told → Type 0
IsToldOrRefused op t = (r : Option Refusal) × (t ≡ record { operation = op; reply = option_map Refused r })

-- the operation of a line was done: a read gave bytes, an object that was made or reserved its offset, and another gave nothing; what changes what is pending, but a
-- publish and a cancel, may give its refusal
abbrev pub IsToldDone : Names → ScriptOp → Told → Type 0
IsToldDone names (Set id off value) t = IsToldOrRefused (operation.SetValue (id_of names id) off value) t
IsToldDone names (DeferFree id) t = IsToldOrRefused (operation.DeferFree (id_of names id)) t
IsToldDone names (WriteReserved id off bytes) t = IsToldOrRefused (operation.WriteReserved (id_of names id) off bytes) t
IsToldDone names (Reserve letter size kind) t =
    ((off : ℕ) × (t ≡ record { operation = operation.Reserve size kind; reply = Some (Offset off) })) ⊎ ((r : Refusal) × (t ≡ refused (operation.Reserve size kind) r))
IsToldDone names (Read id off len) t = (bytes : List ℕ) × (t ≡ record { operation = operation.Read (id_of names id) off len; reply = Some (Bytes bytes) })
IsToldDone names (Alloc letter size kind) t = (off : ℕ) × (t ≡ record { operation = operation.Alloc size kind; reply = Some (Offset off) })
IsToldDone names op t = t ≡ done (operation_of names op)

-- these lines were done
abbrev pub AreToldDone : Names → List ScriptLine → List Told → Type 0
AreToldDone names lines told = AllZip (λ (line : ScriptLine) (t : Told). IsToldDone names line.operation t) lines told

-- what they gave
abbrev pub values_told : List ScriptLine → List Told → Values
values_told lines told = values_of (numbers_of lines) (map model_told told)

-- a call as it is numbered
abbrev pub numbered : ℕ → List Told → Numbered
numbered n told = record { number = n; call = told }

-- some of the lines was refused so, and has this number; those before it were done, gave these values, and came to this with it
pub record IsRefusedAt (names : Names) (lines : List ScriptLine) (line : ℕ) (r : Refusal) (values : Values) (told : List Told) : Type 0 where
  pub front : List ScriptLine
  pub said : ScriptLine
  pub rest : List ScriptLine
  pub is_lines : lines ≡ front ++ said ∷ rest
  pub of_line : said.line ≡ line
  pub gives_up : is_action (operation_of names said.operation) ≡ false
  pub before : List Told
  pub done : AreToldDone names front before
  pub gave : values ≡ values_told front before
  pub told_so : told ≡ before ++ refused (operation_of names said.operation) r ∷ []

-- how an answered transaction of these lines ended, with what it gave: all were done, or one was refused
abbrev pub TransactionEnded : Names → List ScriptLine → TxErr → Reply → List Told → Type 0
TransactionEnded names lines e reply told = (starts_alone lines ≡ false) × (
    ((e ≡ error.None) × (reply.at ≡ 0) × AreToldDone names lines told × (reply.values ≡ values_told lines told))
    ⊎ ((r : Refusal) × (e ≡ error.Refused r) × IsRefusedAt names lines reply.at r reply.values told))

-- the reply of a call outside of a transaction, of one operation, that was done, or refused so, and what its line gave then: a reservation its offset, another nothing
abbrev pub IsOutsideReply : Operation → Option Refusal → Option Value → Option ℕ → Type 0
IsOutsideReply op (Some r) reply gave = (reply ≡ Some (Refused r)) × (gave ≡ None)
IsOutsideReply (operation.Reserve size kind) None reply gave = (off : ℕ) × ((reply ≡ Some (Offset off)) × (gave ≡ Some off))
IsOutsideReply op None reply gave = (reply ≡ None) × (gave ≡ None)

-- what the line gave, as a list of values
abbrev pub values_outside : ℕ → Option ℕ → Values
values_outside line None = []
values_outside line (Some off) = (line, Offset off) ∷ []

-- how a call outside of a transaction ended, of one line: it was done, or refused so
pub record OutsideEnded (names : Names) (lines : List ScriptLine) (r : Option Refusal) (reply : Reply) (told : List Told) : Type 0 where
  pub op : ScriptOp
  pub one : IsOneLine lines op
  pub at : reply.at ≡ 0
  pub answer : Option Value
  pub gave : Option ℕ
  pub replies : IsOutsideReply (operation_of names op) r answer gave
  pub values : reply.values ≡ values_outside one.line.line gave
  pub told_so : told ≡ record { operation = operation_of names op; reply = answer } ∷ []

-- how an answered call of these lines ended
abbrev pub HasEnded : Names → List ScriptLine → CallAnswer → Reply → List Told → Type 0
HasEnded names lines (answer.Transaction e) reply told = TransactionEnded names lines e reply told
HasEnded names lines (answer.Outside r) reply told = OutsideEnded names lines r reply told

-- the entry of an answered call of these lines, as the lane's view has the call
pub record IsEntryOf (names : Names) (lines : List ScriptLine) (e : Entry) (n : Numbered) : Type 0 where
  pub number : e.number ≡ n.number
  pub call : e.call ≡ call_of names lines
  pub answer : CallAnswer
  pub ended : HasEnded names lines answer e.reply n.call
  pub fate : e.fate ≡ settled_fate answer

-- these calls were answered: each has its entry
abbrev pub AreEntries : Names → List (List ScriptLine) → List Entry → List Numbered → Type 0
AreEntries names [] [] [] = ⊤
AreEntries names (call ∷ calls) (e ∷ history) (n ∷ entries) = IsEntryOf names call e n × AreEntries names calls history entries
AreEntries names calls history entries = ⊥

-- The first of these calls was not answered, but drew its number: between these views its entry came to the lane's. It has what the call told, and that came to
-- all of its lines
pub record IsOpenEntryOf (names : Names) (calls : List (List ScriptLine)) (e : Entry) (v w : View) : Type 0 where
  pub call : List ScriptLine
  pub behind : List (List ScriptLine)
  pub are : calls ≡ call ∷ behind
  pub of_call : e.call ≡ call_of names call
  pub told : List Told
  pub entries : w.entries ≡ v.entries ++ numbered e.number told ∷ []
  pub done : AreToldDone names call told
  pub gave : e.reply.values ≡ values_told call told
