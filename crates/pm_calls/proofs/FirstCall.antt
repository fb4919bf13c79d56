-- The first call of lines, found line by line.
use Rattle.std.proofs.Common.{◌≡◌, ◌==◌, ℕ, zero, suc, ◌+◌, ◌-◌, ◌<◌, ◌≤◌, Bool, true, false, cond, List, [], ◌∷◌, ◌++◌, length, map, take, drop, get_or, drop-cons, refl, sym, ap, ◌∙◌, subst, arith}
use Rattle.std.proofs.lemmas.List.{drop-map, length-map, map_more, take-map}
use Rattle.std.proofs.lemmas.Bool.{eqb-true}
use Rattle.std.specs.Borrow.{Bor}
use Rattle.pm_script.specs.Operations.{closes, opens}
use Rattle.pm_script.specs.declared.script.ScriptLine.{ScriptLine}
use Rattle.pm_calls.specs.Calls.{calls_from, calls_of, level_behind, line_of, with_line}

-- ---- ONE LINE

is_some : (n : ℕ) → 1 ≤ n → (n == 0) ≡ false
is_some n some = at (n == 0) refl where
  at : (b : Bool) → (n == 0) ≡ b → b ≡ false
  at true is = let none : n ≡ 0 = eqb-true n 0 is in absurd (omega (arith, none, some))
  at false is = refl

call_goes_on : (level : ℕ) (line : ScriptLine) (lines : List ScriptLine) → 1 ≤ level_behind level line.operation
    → calls_from level (line ∷ lines) ≡ with_line line (calls_from (level_behind level line.operation) lines)
unfolding calls_from
call_goes_on level line lines some =
    ap (λ (b : Bool). cond b ((line ∷ []) ∷ calls_from 0 lines) (with_line line (calls_from (level_behind level line.operation) lines))) (is_some (level_behind level line.operation) some)

call_ends : (level : ℕ) (line : ScriptLine) (lines : List ScriptLine) → level_behind level line.operation ≡ 0
    → calls_from level (line ∷ lines) ≡ (line ∷ []) ∷ calls_of lines
unfolding calls_from
call_ends level line lines none =
    ap (λ (n : ℕ). cond (n == 0) ((line ∷ []) ∷ calls_from 0 lines) (with_line line (calls_from (level_behind level line.operation) lines))) none

pub no_calls : (level : ℕ) → calls_from level [] ≡ []
unfolding calls_from
no_calls level = refl

-- ---- LINES BEFORE CALLS: they are of the first

abbrev with_lines : List ScriptLine → List (List ScriptLine) → List (List ScriptLine)
with_lines [] calls = calls
with_lines (line ∷ lines) calls = with_line line (with_lines lines calls)

with_one_more : (before : List ScriptLine) (line : ScriptLine) (calls : List (List ScriptLine)) → with_lines (before ++ line ∷ []) calls ≡ with_lines before (with_line line calls)
with_one_more [] line calls = refl
with_one_more (first ∷ before) line calls = ap (with_line first) (with_one_more before line calls)

before_first : (before call : List ScriptLine) (calls : List (List ScriptLine)) → with_lines before (call ∷ calls) ≡ (before ++ call) ∷ calls
before_first [] call calls = refl
before_first (first ∷ before) call calls = ap (with_line first) (before_first before call calls)

all_lines : (lines : List ScriptLine) → 1 ≤ length lines → with_lines lines [] ≡ lines ∷ []
all_lines [] some = absurd (omega (arith, some))
all_lines (line ∷ []) some = refl
all_lines (line ∷ next ∷ lines) some = ap (with_line line) (all_lines (next ∷ lines) (omega arith))

-- ---- LINES, each by a reference to it

abbrev pub said : List (Bor ScriptLine) → List ScriptLine
said lines = map line_of lines

one_more : (lines : List (Bor ScriptLine)) (k : ℕ) (line : Bor ScriptLine) → k < length lines → line ≡ get_or lines k line
    → take (k + 1) (said lines) ≡ take k (said lines) ++ line.now ∷ []
one_more lines k line low is =
    take-map line_of (k + 1) lines
    ∙ map_more line_of lines k line low
    ∙ ap (λ (before : List ScriptLine). before ++ (get_or lines k line).now ∷ []) (sym (take-map line_of k lines))
    ∙ ap (λ (b : Bor ScriptLine). take k (said lines) ++ b.now ∷ []) (sym is)

one_less : (lines : List (Bor ScriptLine)) (k : ℕ) (line : Bor ScriptLine) → k < length lines → line ≡ get_or lines k line
    → drop k (said lines) ≡ line.now ∷ drop (k + 1) (said lines)
one_less lines k line low is =
    drop-map line_of k lines
    ∙ ap said (drop-cons lines k line low)
    ∙ ap (λ (b : Bor ScriptLine). b.now ∷ said (drop (suc k) lines)) (sym is)
    ∙ ap (λ (rest : List ScriptLine). line.now ∷ rest) (sym (drop-map line_of (suc k) lines))
    ∙ ap (λ (n : ℕ). line.now ∷ drop n (said lines)) (let e : suc k ≡ k + 1 = omega arith in e)

-- the first k of these lines are of the first call, and so many levels are open after them
pub record IsSoFar (lines : List (Bor ScriptLine)) (k level : ℕ) : Type 0 where
  pub first : calls_of (said lines) ≡ with_lines (take k (said lines)) (calls_from level (drop k (said lines)))
  pub low : level ≤ k

pub so_far_none : (lines : List (Bor ScriptLine)) → IsSoFar lines 0 0
so_far_none lines = record { first = refl; low = omega arith }

level_low : (k level : ℕ) (line : ScriptLine) → level ≤ k → level_behind level line.operation ≤ k + 1
level_low k level line low = at (opens line.operation) (closes line.operation) where
  at : (o c : Bool) → cond o (level + 1) (cond c (level - 1) level) ≤ k + 1
  at true c = omega (arith, low)
  at false true = omega (arith, low)
  at false false = omega (arith, low)

pub so_far_more : (lines : List (Bor ScriptLine)) (k level : ℕ) (line : Bor ScriptLine) → k < length lines → line ≡ get_or lines k line
    → 1 ≤ level_behind level line.now.operation → IsSoFar lines k level → IsSoFar lines (k + 1) (level_behind level line.now.operation)
so_far_more lines k level line low is some so = record {
  first =
      so.first
      ∙ ap (λ (rest : List ScriptLine). with_lines (take k (said lines)) (calls_from level rest)) (one_less lines k line low is)
      ∙ ap (with_lines (take k (said lines))) (call_goes_on level line.now (drop (k + 1) (said lines)) some)
      ∙ sym (with_one_more (take k (said lines)) line.now (calls_from (level_behind level line.now.operation) (drop (k + 1) (said lines))))
      ∙ ap (λ (before : List ScriptLine). with_lines before (calls_from (level_behind level line.now.operation) (drop (k + 1) (said lines)))) (sym (one_more lines k line low is));
  low = level_low k level line.now so.low;
}

pub first_ends : (lines : List (Bor ScriptLine)) (k level : ℕ) (line : Bor ScriptLine) → k < length lines → line ≡ get_or lines k line
    → level_behind level line.now.operation ≡ 0 → IsSoFar lines k level → calls_of (said lines) ≡ take (k + 1) (said lines) ∷ calls_of (drop (k + 1) (said lines))
first_ends lines k level line low is none so =
    so.first
    ∙ ap (λ (rest : List ScriptLine). with_lines (take k (said lines)) (calls_from level rest)) (one_less lines k line low is)
    ∙ ap (with_lines (take k (said lines))) (call_ends level line.now (drop (k + 1) (said lines)) none)
    ∙ before_first (take k (said lines)) (line.now ∷ []) (calls_of (drop (k + 1) (said lines)))
    ∙ ap (λ (call : List ScriptLine). call ∷ calls_of (drop (k + 1) (said lines))) (sym (one_more lines k line low is))

pub all_dropped : {A : Type 0} (xs : List A) (n : ℕ) → length xs ≤ n → drop n xs ≡ []
all_dropped [] zero all = refl
all_dropped [] (suc n) all = refl
all_dropped (x ∷ xs) zero all = absurd (omega (arith, all))
all_dropped (x ∷ xs) (suc n) all = all_dropped xs n (omega (arith, all))

pub all_taken : {A : Type 0} (xs : List A) (n : ℕ) → length xs ≤ n → take n xs ≡ xs
all_taken [] zero all = refl
all_taken [] (suc n) all = refl
all_taken (x ∷ xs) zero all = absurd (omega (arith, all))
all_taken (x ∷ xs) (suc n) all = ap (λ l. x ∷ l) (all_taken xs n (omega (arith, all)))

all_first : (all : List ScriptLine) (k level : ℕ) → 1 ≤ length all → length all ≤ k → calls_of all ≡ with_lines (take k all) (calls_from level (drop k all)) → calls_of all ≡ take (length all) all ∷ calls_of (drop (length all) all)
all_first all k level some end first =
    first
    ∙ ap (λ (before : List ScriptLine). with_lines before (calls_from level (drop k all))) (all_taken all k end)
    ∙ ap (λ (rest : List ScriptLine). with_lines all (calls_from level rest)) (all_dropped all k end)
    ∙ ap (with_lines all) (no_calls level)
    ∙ all_lines all some
    ∙ ap (λ (call : List ScriptLine). call ∷ []) (sym (all_taken all (length all) (omega arith)))
    ∙ ap (λ (rest : List (List ScriptLine)). take (length all) all ∷ rest) (sym (ap calls_of (all_dropped all (length all) (omega arith)) ∙ no_calls 0))

pub first_is_all : (lines : List (Bor ScriptLine)) (k level : ℕ) → 1 ≤ length lines → length lines ≤ k → IsSoFar lines k level
    → calls_of (said lines) ≡ take (length lines) (said lines) ∷ calls_of (drop (length lines) (said lines))
first_is_all lines k level some end so =
    subst (λ n. calls_of (said lines) ≡ take n (said lines) ∷ calls_of (drop n (said lines))) same
    (all_first (said lines) k level (subst (λ n. 1 ≤ n) (sym same) some) (subst (λ n. n ≤ k) (sym same) end) so.first) where
      same : length (said lines) ≡ length lines
      same = length-map lines line_of
