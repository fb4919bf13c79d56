-- Each transaction of lines with rising numbers has rising numbers.
use Rattle.std.proofs.Common.{◌≡◌, ℕ, zero, suc, ◌+◌, ◌<◌, All, Bool, true, false, cond, List, [], ◌∷◌, ◌++◌, length, slice_index, refl, sym, ap, ◌∙◌, subst, arith, length-append}
use Rattle.std.specs.List.{flat_map}
use Rattle.std.specs.List.Sorted.{IsStrictlyIncreasing}
use Rattle.std.proofs.lemmas.List.{map-append}
use Rattle.std.proofs.lemmas.List.Elements.{All-cons, All-nil}
use Rattle.solo_script.specs.declared.script.ScriptLine.{ScriptLine}
use Rattle.solo_exec.specs.Calls.{call_lines, call_lines_from, ends_call, numbers_of, with_line}

-- the lines of some call_lines
abbrev pub lines_in : List (List ScriptLine) → List ScriptLine
lines_in calls = flat_map (λ (call : List ScriptLine). call) calls

with_first : (line : ScriptLine) (calls : List (List ScriptLine)) → lines_in (with_line line calls) ≡ line ∷ lines_in calls
with_first line [] = refl
with_first line (call ∷ calls) = refl

-- whether the line ends its call or not
one_more : (line : ScriptLine) (lines : List ScriptLine) → ((inside : Bool) → lines_in (call_lines_from inside lines) ≡ lines)
    → (b : Bool) → lines_in (cond b ((line ∷ []) ∷ call_lines_from false lines) (with_line line (call_lines_from true lines))) ≡ line ∷ lines
one_more line lines are true = ap (λ (ls : List ScriptLine). line ∷ ls) (are false)
one_more line lines are false = with_first line (call_lines_from true lines) ∙ ap (λ (ls : List ScriptLine). line ∷ ls) (are true)

lines_from : (inside : Bool) (lines : List ScriptLine) → lines_in (call_lines_from inside lines) ≡ lines
unfolding call_lines_from
lines_from inside [] = refl
lines_from inside (line ∷ lines) = one_more line lines (λ within. lines_from within lines) (ends_call inside line.operation)

pub all_lines : (lines : List ScriptLine) → lines_in (call_lines lines) ≡ lines
all_lines lines = lines_from false lines

-- parts of rising numbers rise
rise_behind : (x : ℕ) (xs : List ℕ) → IsStrictlyIncreasing (x ∷ xs) → IsStrictlyIncreasing xs
rise_behind x xs rising k low =
    let next : suc k + 1 ≡ suc (k + 1) = omega arith in
    subst (λ (i : ℕ). slice_index xs k < slice_index (x ∷ xs) i) next (rising (suc k) (omega (arith, low)))

at_front : (xs ys : List ℕ) (k : ℕ) → k < length xs → slice_index (xs ++ ys) k ≡ slice_index xs k
at_front [] ys k low = absurd (omega (arith, low))
at_front (x ∷ xs) ys zero low = refl
at_front (x ∷ xs) ys (suc k) low = at_front xs ys k (omega (arith, low))

rise_front : (xs ys : List ℕ) → IsStrictlyIncreasing (xs ++ ys) → IsStrictlyIncreasing xs
rise_front xs ys rising k low =
    let all = length-append xs ys in
    let one = at_front xs ys k (omega (arith, low)) in
    let other = at_front xs ys (k + 1) low in
    let less = rising k (omega (arith, low, all)) in
    omega (arith, one, other, less)

rise_rest : (xs ys : List ℕ) → IsStrictlyIncreasing (xs ++ ys) → IsStrictlyIncreasing ys
rise_rest [] ys rising = rising
rise_rest (x ∷ xs) ys rising = rise_rest xs ys (rise_behind x (xs ++ ys) rising)

-- each of some calls rises
abbrev pub AreRising : List (List ScriptLine) → Type 0
AreRising calls = All (λ (call : List ScriptLine). IsStrictlyIncreasing (numbers_of call)) calls

calls_rise : (calls : List (List ScriptLine)) → IsStrictlyIncreasing (numbers_of (lines_in calls)) → AreRising calls
calls_rise [] rising = All-nil (λ (call : List ScriptLine). IsStrictlyIncreasing (numbers_of call))
calls_rise (call ∷ calls) rising =
    let parts : IsStrictlyIncreasing (numbers_of call ++ numbers_of (lines_in calls)) = subst IsStrictlyIncreasing (map-append (λ (line : ScriptLine). line.line) call (lines_in calls)) rising in
    All-cons (λ (c : List ScriptLine). IsStrictlyIncreasing (numbers_of c)) call calls (rise_front (numbers_of call) (numbers_of (lines_in calls)) parts) (calls_rise calls (rise_rest (numbers_of call) (numbers_of (lines_in calls)) parts))

pub call_lines_rise : (lines : List ScriptLine) → IsStrictlyIncreasing (numbers_of lines) → AreRising (call_lines lines)
call_lines_rise lines rising = calls_rise (call_lines lines) (subst (λ (ls : List ScriptLine). IsStrictlyIncreasing (numbers_of ls)) (sym (all_lines lines)) rising)
