-- The lines of a script have rising numbers.
use Rattle.std.proofs.Common.{◌≡◌, ℕ, zero, suc, ◌+◌, ◌<◌, ◌≤◌, List, [], ◌∷◌, length, map, slice_index, Option, Some, None, option_map, refl, sym, subst, arith}
use Rattle.std.specs.List.{cons_option, filter_map}
use Rattle.std.specs.Option.{IfSome, option_and_then}
use Rattle.std.specs.List.Sorted.{IsStrictlyIncreasing}
use Rattle.solo_script.specs.Contexts.{Context, start}
use Rattle.solo_script.specs.Scripts.{IsScript, context_behind, line_of, line_said, lines_from, said}
use Rattle.solo_script.specs.Words.{words}
use Rattle.solo_script.specs.declared.script.Script.{Script}
use Rattle.solo_script.specs.declared.script.ScriptLine.{ScriptLine}
use Rattle.solo_script.specs.declared.script.ScriptOp.{ScriptOp}
use Rattle.solo_script.specs.declared.statement.Statement.{Statement}
use Rattle.solo_script.specs.declared.statement.Statement.TheVariants as says

-- each number is above the one before it, and none is below the first bound
abbrev Rises : ℕ → List ℕ → Type 0
Rises n [] = Unit {0}
Rises n (x ∷ xs) = (n ≤ x) × Rises (x + 1) xs

lower : (n m : ℕ) (xs : List ℕ) → n ≤ m → Rises m xs → Rises n xs
lower n m [] below rises = tt
lower n m (x ∷ xs) below rises = (let low = rises.0 in omega (arith, low, below), rises.1)

abbrev numbers : List ScriptLine → List ℕ
numbers lines = map (λ (line : ScriptLine). line.line) lines

-- one line more, which says an operation or not
one_more : (n : ℕ) (found : Option ScriptLine) (others : List ScriptLine) → IfSome found (λ line. line.line ≡ n) → Rises (n + 1) (numbers others) → Rises n (numbers (cons_option found others))
one_more n None others is rises = lower n (n + 1) (numbers others) (omega arith) rises
one_more n (Some line) others is rises = (omega (arith, is), subst (λ m. Rises (m + 1) (numbers others)) (sym is) rises)

operation_numbered : (n : ℕ) (operation : ScriptOp) (lane : Option ℕ) → IfSome (option_map (λ (l : ℕ). record { line = n; lane = l; operation = operation }) lane) (λ (line : ScriptLine). line.line ≡ n)
operation_numbered n operation None = tt
operation_numbered n operation (Some lane) = refl

numbered : (context : Context) (n : ℕ) (statement : Option Statement) → IfSome (option_and_then (line_said context n) statement) (λ line. line.line ≡ n)
numbered context n None = tt
numbered context n (Some (says.Lane lane)) = tt
numbered context n (Some (says.Operation operation)) = operation_numbered n operation context.lane

rise_from : (context : Context) (n : ℕ) (lines : List (List ℕ)) → Rises n (numbers (filter_map line_of (lines_from context n lines)))
rise_from context n [] = tt
rise_from context n (text ∷ lines) =
    let next = context_behind context n (said context (words text)) in
    one_more n (option_and_then (line_said context n) (said context (words text))) (filter_map line_of (lines_from next (n + 1) lines)) (numbered context n (said context (words text))) (rise_from next (n + 1) lines)

at_least : (n : ℕ) (xs : List ℕ) (k : ℕ) → Rises n xs → k + 1 < length xs → slice_index xs k < slice_index xs (k + 1)
at_least n [] k rises low = absurd (omega (arith, low))
at_least n (x ∷ []) k rises low = absurd (omega (arith, low))
at_least n (x ∷ y ∷ xs) zero rises low = let next = rises.1.0 in omega (arith, next)
at_least n (x ∷ y ∷ xs) (suc k) rises low =
    subst (λ m. slice_index (x ∷ y ∷ xs) (suc k) < slice_index (x ∷ y ∷ xs) m) (let e : suc (k + 1) ≡ suc k + 1 = omega arith in e) (at_least (x + 1) (y ∷ xs) k rises.1 (omega (arith, low)))

pub lines_rise : (lines : List (List ℕ)) (script : Script) → IsScript lines script → IsStrictlyIncreasing (map (λ (line : ScriptLine). line.line) script.lines)
lines_rise lines script is = subst (λ ls. IsStrictlyIncreasing (numbers ls)) (sym is.lines_said) (λ k low. at_least 1 (numbers (filter_map line_of (lines_from start 1 lines))) k (rise_from start 1 lines) low)
