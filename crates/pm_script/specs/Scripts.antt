-- What a script is, and the first bad line of a text that is none: docs/COMMANDS.md, "Scripts".
use Rattle.std.specs.Prelude.{◌≡◌, ℕ, ◌+◌, ◌-◌, ◌≤◌, ◌<◌, ◌⊎◌, ◌||◌, ◌==◌, max, nat_lt, not, Bool, true, false, if◌then◌else◌, List, [], ◌∷◌, ◌++◌, map, filter, All, Contains, is_some, option_and_then, option_map, option_to_list, Option, Some, None, Result, Err, alloc_error, ⊤}
use Rattle.std.specs.List.{find, filter_map}
use Rattle.std.specs.Option.{option_map_or}
use Rattle.pm_script.specs.Contexts.{Context, binds, start}
use Rattle.pm_script.specs.Grammar.{form, form_tests, keyword_of, place_asked, statement_of}
use Rattle.pm_script.specs.Operations.{closes, ids_of, letter_bound, opens, place_of, stands_inside, stands_outside}
use Rattle.pm_script.specs.Words.{words, is_text, is_skipped}
use Rattle.pm_script.specs.declared.context.Binding.{Binding}
use Rattle.pm_script.specs.declared.context.OpenTransaction.{OpenTransaction}
use Rattle.pm_script.specs.declared.fault.BadLine.{BadLine}
use Rattle.pm_script.specs.declared.fault.ScriptFault.{ScriptFault}
use Rattle.pm_script.specs.declared.fault.ScriptFault.TheVariants.{Bad, Memory}
use Rattle.pm_script.specs.declared.fault.Why.{Why}
use Rattle.pm_script.specs.declared.fault.Why.TheVariants.{Text, Word, NoLane, Inside, Outside, Open}
use Rattle.pm_script.specs.declared.script.Place.{Place}
use Rattle.pm_script.specs.declared.script.Script.{Script}
use Rattle.pm_script.specs.declared.script.ScriptId.{ScriptId}
use Rattle.pm_script.specs.declared.script.ScriptId.TheVariants.{Bound}
use Rattle.pm_script.specs.declared.script.ScriptLine.{ScriptLine}
use Rattle.pm_script.specs.declared.script.ScriptOp.{ScriptOp}
use Rattle.pm_script.specs.declared.script.ScriptOp.TheVariants as op
use Rattle.pm_script.specs.declared.script.ScriptWant.{ScriptWant}
use Rattle.pm_script.specs.declared.statement.Keyword.{Keyword}
use Rattle.pm_script.specs.declared.statement.Statement.{Statement}
use Rattle.pm_script.specs.declared.statement.Statement.TheVariants as says

-- ---- what a line says

-- what a line says in its place
abbrev pub said : Context → List (List ℕ) → Option Statement
said context [] = None
said context (word ∷ operands) = option_and_then (λ keyword. statement_of context keyword operands) (keyword_of word)

-- ---- where a line stands

-- the open transaction is the lane's
abbrev pub is_of_lane : ℕ → OpenTransaction → Bool
is_of_lane lane transaction = transaction.lane == lane

-- the lane's open transaction
abbrev pub transaction_of : ℕ → List OpenTransaction → Option OpenTransaction
transaction_of lane begun = find (is_of_lane lane) begun

-- that of the present lane
abbrev pub present_transaction : Context → Option OpenTransaction
present_transaction context = option_and_then (λ lane. transaction_of lane context.begun) context.lane

-- a transaction of the present lane is open
abbrev pub is_inside : Context → Bool
is_inside context = is_some (present_transaction context)

-- what a begin on line n makes of the lane's transaction: it opens one, or one more level of it
abbrev pub opened : ℕ → ℕ → Option OpenTransaction → OpenTransaction
opened lane n None = record { lane = lane; line = n; inner = 0 }
opened lane n (Some outer) = record { lane = lane; line = outer.line; inner = outer.inner + 1 }

-- what a commit or an abort makes of it: its innermost level is closed
abbrev pub closed : ℕ → Option OpenTransaction → Option OpenTransaction
closed lane None = None
closed lane (Some transaction) = if nat_lt 0 transaction.inner then Some (record { lane = lane; line = transaction.line; inner = transaction.inner - 1 }) else None

-- the open transactions with this in place of the lane's
abbrev pub replaced : ℕ → Option OpenTransaction → List OpenTransaction → List OpenTransaction
replaced lane transaction begun = filter (λ other. not (is_of_lane lane other)) begun ++ option_to_list transaction

-- the open transactions after an operation of the lane on line n
abbrev pub begun_behind : ℕ → ℕ → ScriptOp → List OpenTransaction → List OpenTransaction
begun_behind lane n operation begun =
    if opens operation then replaced lane (Some (opened lane n (transaction_of lane begun))) begun
    else (if closes operation then replaced lane (closed lane (transaction_of lane begun)) begun else begun)

-- the bindings behind one more, which takes the place of the lane's last one of the letter
abbrev pub rebound : Binding → List Binding → List Binding
rebound new bound = filter (λ old. not (binds new.lane new.letter old)) bound ++ new ∷ []

-- the bindings behind an operation of the lane on line n, which may bind a letter
abbrev pub bound_behind : ℕ → ℕ → ScriptOp → List Binding → List Binding
bound_behind lane n operation bound = option_map_or (λ letter. rebound (record { lane = lane; letter = letter; line = n }) bound) (letter_bound operation) bound

-- what a line n leaves that says this
abbrev pub context_behind : Context → ℕ → Option Statement → Context
context_behind context n (Some (says.Lane lane)) = record context { lane = Some lane; lanes = max context.lanes (lane + 1) }
context_behind context n (Some (says.Operation operation)) = record context {
  begun = option_map_or (λ lane. begun_behind lane n operation context.begun) context.lane context.begun;
  bound = option_map_or (λ lane. bound_behind lane n operation context.bound) context.lane context.bound;
}
context_behind context n None = context

-- ---- why a line is bad

-- the reason of the first test that failed
abbrev pub first_failed : List (Bool × Why) → Option Why
first_failed [] = None
first_failed (test ∷ tests) = if test.0 then first_failed tests else Some test.1

-- the tests of a line in its place, each with its reason, in order
abbrev pub place_tests : Context → Option Place → List (Bool × Why)
place_tests context None = []
place_tests context (Some place) =
    (is_some context.lane, NoLane)
    ∷ (not (is_inside context) || stands_inside place, Inside)
    ∷ (is_inside context || stands_outside place, Outside)
    ∷ []

-- the tests of a line behind its first word
abbrev pub tests : Context → Keyword → List (List ℕ) → List (Bool × Why)
tests context keyword operands = form_tests context (form keyword) operands ++ place_tests context (place_asked keyword)

-- why these words are a bad line: the first word is none of a script's, or a test fails
abbrev pub why_of_words : Context → List (List ℕ) → Option Why
why_of_words context [] = None
why_of_words context (word ∷ operands) = option_map_or (λ keyword. first_failed (tests context keyword operands)) (keyword_of word) (Some Word)

-- why a line is bad: the first reason; a line that is skipped is bad for its bytes alone
abbrev pub why_of : Context → List ℕ → Option Why
why_of context text =
    if not (is_text text) then Some Text else (if is_skipped (words text) then None else why_of_words context (words text))

-- ---- the lines of a text in their places

-- a line with its number and what the lines before it leave
pub record Line : Type 0 where
  pub number : ℕ
  pub context : Context
  pub text : List ℕ

-- what a line leaves
abbrev pub context_after : Line → Context
context_after line = context_behind line.context line.number (said line.context (words line.text))

-- lines, the first of which has the number n and stands behind the context
abbrev pub lines_from : Context → ℕ → List (List ℕ) → List Line
lines_from context n [] = []
lines_from context n (text ∷ texts) = record { number = n; context = context; text = text } ∷ lines_from (context_behind context n (said context (words text))) (n + 1) texts

-- what the last of such lines leaves
abbrev pub context_from : Context → ℕ → List (List ℕ) → Context
context_from context n [] = context
context_from context n (text ∷ texts) = context_from (context_behind context n (said context (words text))) (n + 1) texts

-- a line's fault, if it is bad
abbrev pub fault_of : Line → Option BadLine
fault_of line = option_map (λ why. record { line = line.number; why = why }) (why_of line.context line.text)

-- the bad lines of a text, in order
abbrev pub faults : List (List ℕ) → List BadLine
faults lines = filter_map fault_of (lines_from start 1 lines)

-- what is left at the end of a text
abbrev pub left : List (List ℕ) → Context
left lines = context_from start 1 lines

-- ---- scripts

-- the line of a script that says this on line n, if it is an operation
abbrev pub line_said : Context → ℕ → Statement → Option ScriptLine
line_said context n (says.Operation operation) = option_map (λ lane. record { line = n; lane = lane; operation = operation }) context.lane
line_said context n (says.Lane lane) = None

-- the line of a script that a line is
abbrev pub line_of : Line → Option ScriptLine
line_of line = option_and_then (line_said line.context line.number) (said line.context (words line.text))

-- the lines of a text are this script: none is bad, each transaction is closed, and the operations are what the lines say, each with its line's number and lane
pub record IsScript (lines : List (List ℕ)) (script : Script) : Type 0 where
  pub good : faults lines ≡ []
  pub closed : (left lines).begun ≡ []
  pub lines_said : script.lines ≡ filter_map line_of (lines_from start 1 lines)
  pub lanes_named : script.lanes ≡ (left lines).lanes

-- the lines of the outermost begins of the transactions that are open
abbrev pub begin_lines : List OpenTransaction → List ℕ
begin_lines begun = map (λ (transaction : OpenTransaction). transaction.line) begun

-- the least of them
abbrev pub IsFirstOpen : List OpenTransaction → ℕ → Type 0
IsFirstOpen begun line = Contains (begin_lines begun) line × All (λ other. line ≤ other) (begin_lines begun)

-- the first bad line of a text: the first that is bad for a reason, and where none is, the first outermost begin that is never closed
abbrev pub IsBadLine : List (List ℕ) → BadLine → Type 0
IsBadLine lines bad = ((others : List BadLine) × (faults lines ≡ bad ∷ others)) ⊎ ((faults lines ≡ []) × (bad.why ≡ Open) × IsFirstOpen (left lines).begun bad.line)

-- the fact for a bad line
abbrev pub IfBad : ScriptFault → (BadLine → Type 0) → Type 0
IfBad (Bad line) P = P line
IfBad (Memory error) P = ⊤

-- the answer is this, or there was no memory for it
abbrev pub IsUnlessNoMemory : Result Script ScriptFault → Result Script ScriptFault → Type 0
IsUnlessNoMemory result wanted = (result ≡ wanted) ⊎ (result ≡ Err (Memory alloc_error))

-- ---- transactions, and calls outside of them

-- what closes a level
abbrev pub IsClose : ScriptOp → Type 0
IsClose operation = closes operation ≡ true

-- what may stand in a transaction, and opens and closes no level
abbrev pub IsChange : ScriptOp → Type 0
IsChange operation = (stands_inside (place_of operation) ≡ true) × (opens operation ≡ false) × (closes operation ≡ false)

-- what may stand outside of a transaction, and opens none
abbrev pub IsOutside : ScriptOp → Type 0
IsOutside operation = (stands_outside (place_of operation) ≡ true) × (opens operation ≡ false)

-- what stands between a begin and its close: nothing; a change and then others; or a level, with its begin and its close, and then others
pub data AreInside : List ScriptOp → Type 0 where
  no_more : AreInside []
  change : (one : ScriptOp) (others : List ScriptOp) → IsChange one → AreInside others → AreInside (one ∷ others)
  level : (wants : List ScriptWant) (inner : List ScriptOp) (close : ScriptOp) (others : List ScriptOp) → AreInside inner → IsClose close → AreInside others
      → AreInside (op.Begin wants ∷ inner ++ close ∷ others)

-- nothing; a transaction, with its begin and its close, and then calls; or a call outside and then calls
pub data AreCalls : List ScriptOp → Type 0 where
  none : AreCalls []
  transaction : (wants : List ScriptWant) (inner : List ScriptOp) (close : ScriptOp) (others : List ScriptOp) → AreInside inner → IsClose close → AreCalls others
      → AreCalls (op.Begin wants ∷ inner ++ close ∷ others)
  outside : (one : ScriptOp) (others : List ScriptOp) → IsOutside one → AreCalls others → AreCalls (one ∷ others)

-- what the lines of a script say
abbrev pub operations : List ScriptLine → List ScriptOp
operations lines = map (λ (line : ScriptLine). line.operation) lines

-- a letter stands for what a line before line n gave
abbrev pub IsBoundBefore : ℕ → ScriptId → Type 0
IsBoundBefore n (Bound line) = line < n
IsBoundBefore n id = ⊤

-- so do all letters of a line
abbrev pub NamesEarlierLines : ScriptLine → Type 0
NamesEarlierLines line = All (IsBoundBefore line.line) (ids_of line.operation)

-- the operation binds a letter
abbrev pub Binds : ScriptOp → Type 0
Binds operation = is_some (letter_bound operation) ≡ true

-- a letter stands for what one of these lines gave, which is of the lane and binds a letter
abbrev pub HasBindingLine : List ScriptLine → ℕ → ScriptId → Type 0
HasBindingLine lines lane (Bound n) = (line : ScriptLine) × Contains lines line × (line.line ≡ n) × (line.lane ≡ lane) × Binds line.operation
HasBindingLine lines lane id = ⊤

-- so do all letters of a line
abbrev pub NamesBindingLines : List ScriptLine → ScriptLine → Type 0
NamesBindingLines lines line = All (HasBindingLine lines line.lane) (ids_of line.operation)

-- the lines of a lane
abbrev pub of_lane : ℕ → List ScriptLine → List ScriptLine
of_lane lane lines = filter (λ (line : ScriptLine). line.lane == lane) lines
