-- The lanes of a script's lines are those that its `lane` lines name, and these are few.
use Rattle.std.proofs.Common.{◌≡◌, ℕ, ◌+◌, ◌<◌, ◌≤◌, max, All, List, [], ◌∷◌, Option, Some, None, option_map, refl, sym, subst, arith}
use Rattle.std.specs.List.{cons_option, filter_map}
use Rattle.std.specs.Option.{IfSome, option_and_then}
use Rattle.std.proofs.lemmas.List.Elements.{All-nil, All-cons}
use Rattle.pm_script.specs.Contexts.{Context, start}
use Rattle.pm_script.specs.Reading.{HasLane}
use Rattle.pm_script.specs.Scripts.{IsScript, context_behind, context_from, fault_of, left, line_of, line_said, lines_from, said}
use Rattle.pm_script.specs.Words.{words}
use Rattle.pm_script.specs.declared.script.Script.{Script}
use Rattle.pm_script.specs.declared.script.ScriptLine.{ScriptLine}
use Rattle.pm_script.specs.declared.script.ScriptOp.{ScriptOp}
use Rattle.pm_script.specs.declared.statement.Statement.{Statement}
use Rattle.pm_script.specs.declared.statement.Statement.TheVariants as says
use Rattle.pm_script.proofs.Judging.{first_good, good_lane}

-- the present lane is one of those that were named
abbrev IsNamed : Context → Type 0
IsNamed context = IfSome context.lane (λ lane. lane < context.lanes)

named_behind : (context : Context) (n : ℕ) (statement : Option Statement) → IsNamed context → IsNamed (context_behind context n statement)
named_behind context n None named = named
named_behind context n (Some (says.Lane lane)) named = let e : lane < max context.lanes (lane + 1) = omega arith in e
named_behind context n (Some (says.Operation operation)) named = named

grow : (context : Context) (n : ℕ) (statement : Option Statement) → context.lanes ≤ (context_behind context n statement).lanes
grow context n None = omega arith
grow context n (Some (says.Lane lane)) = let e : context.lanes ≤ max context.lanes (lane + 1) = omega arith in e
grow context n (Some (says.Operation operation)) = omega arith

grow_from : (context : Context) (n : ℕ) (lines : List (List ℕ)) → context.lanes ≤ (context_from context n lines).lanes
grow_from context n [] = omega arith
grow_from context n (text ∷ lines) =
    let next = context_behind context n (said context (words text)) in
    let now = grow context n (said context (words text)) in
    let later = grow_from next (n + 1) lines in
    omega (arith, now, later)

abbrev IsBelow : ℕ → ScriptLine → Type 0
IsBelow lanes line = line.lane < lanes

operation_below : (n lanes count : ℕ) (operation : ScriptOp) (lane : Option ℕ) → IfSome lane (λ l. l < lanes) → lanes ≤ count → IfSome (option_map (λ (l : ℕ). record { line = n; lane = l; operation = operation }) lane) (IsBelow count)
operation_below n lanes count operation None named more = tt
operation_below n lanes count operation (Some lane) named more = omega (arith, named, more)

below : (context : Context) (n count : ℕ) (statement : Option Statement) → IsNamed context → context.lanes ≤ count → IfSome (option_and_then (line_said context n) statement) (IsBelow count)
below context n count None named more = tt
below context n count (Some (says.Lane lane)) named more = tt
below context n count (Some (says.Operation operation)) named more = operation_below n context.lanes count operation context.lane named more

one_more : (count : ℕ) (found : Option ScriptLine) (others : List ScriptLine) → IfSome found (IsBelow count) → All (IsBelow count) others → All (IsBelow count) (cons_option found others)
one_more count None others is all = all
one_more count (Some line) others is all = All-cons (IsBelow count) line others is all

below_from : (context : Context) (n : ℕ) (lines : List (List ℕ)) → IsNamed context → All (IsBelow (context_from context n lines).lanes) (filter_map line_of (lines_from context n lines))
below_from context n [] named = All-nil (IsBelow context.lanes)
below_from context n (text ∷ lines) named =
    let statement = said context (words text) in
    let next = context_behind context n statement in
    let count = (context_from next (n + 1) lines).lanes in
    one_more count (option_and_then (line_said context n) statement) (filter_map line_of (lines_from next (n + 1) lines)) (below context n count statement named (grow_from context n (text ∷ lines))) (below_from next (n + 1) lines (named_behind context n statement named))

pub lanes_below : (lines : List (List ℕ)) (script : Script) → IsScript lines script → All (λ (line : ScriptLine). line.lane < script.lanes) script.lines
lanes_below lines script is =
    subst (λ count. All (IsBelow count) script.lines) (sym is.lanes_named)
    (subst (All (IsBelow (left lines).lanes)) (sym is.lines_said) (below_from start 1 lines tt))

pub one_lane : (lines : List (List ℕ)) (script : Script) → IsScript lines script → script.lanes ≡ 1 → All (λ (line : ScriptLine). line.lane ≡ 0) script.lines
one_lane lines script is one k d low = let lane = lanes_below lines script is k d low in omega (arith, lane, one)

-- a script counts one lane at least
pub some_lane : (lines : List (List ℕ)) (script : Script) → IsScript lines script → 1 ≤ script.lanes
some_lane lines script is =
    let grown = grow_from start 1 lines in
    let named = is.lanes_named in
    omega (arith, grown, named)

-- ---- 32 lanes at most

few_behind : (context : Context) (n : ℕ) (statement : Option Statement) → ((s : Statement) → statement ≡ Some s → HasLane s) → context.lanes ≤ 32 → (context_behind context n statement).lanes ≤ 32
few_behind context n None has few = few
few_behind context n (Some (says.Lane lane)) has few =
    let low : lane < 32 = has (says.Lane lane) refl in
    let e : max context.lanes (lane + 1) ≤ 32 = omega (arith, few, low) in e
few_behind context n (Some (says.Operation operation)) has few = few

few_from : (context : Context) (n : ℕ) (lines : List (List ℕ)) → filter_map fault_of (lines_from context n lines) ≡ [] → context.lanes ≤ 32 → (context_from context n lines).lanes ≤ 32
few_from context n [] good few = few
few_from context n (text ∷ lines) good few =
    let statement = said context (words text) in
    let fine = first_good context n text lines good in
    few_from (context_behind context n statement) (n + 1) lines fine.1 (few_behind context n statement (λ s is. good_lane context text s fine.0 is) few)

pub few_lanes : (lines : List (List ℕ)) (script : Script) → IsScript lines script → script.lanes ≤ 32
few_lanes lines script is =
    let few = few_from start 1 lines is.good (omega arith) in
    let named = is.lanes_named in
    omega (arith, few, named)
