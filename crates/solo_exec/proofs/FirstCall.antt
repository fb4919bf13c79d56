-- Where the first transaction of some lines ends.
use Rattle.std.proofs.Common.{◌≡◌, ℕ, suc, ◌+◌, ◌<◌, ◌≤◌, Bool, true, false, not, ◌||◌, cond, ltb, List, [], ◌∷◌, length, take, drop, get_or, Some, None, refl, sym, ap, ◌∙◌, arith}
use Rattle.std.proofs.Math.Seq.{take-length}
use Rattle.std.specs.List.{position_or_len}
use Rattle.std.proofs.lemmas.Bool.Decides.{nat_tests}
use Rattle.solo_script.specs.declared.script.ScriptLine.{ScriptLine}
use Rattle.solo_exec.specs.Calls.{is_commit, call_lines, call_lines_from, stands_alone, with_line}
use Rattle.std.proofs.lemmas.Bool.{or_right}

-- the line ends its transaction
abbrev pub commits : ScriptLine → Bool
commits line = is_commit line.operation

-- its commit ends it
pub first_to_commit : (lines : List ScriptLine) → position_or_len commits lines < length lines → call_lines_from true lines ≡ take (position_or_len commits lines + 1) lines ∷ call_lines (drop (position_or_len commits lines + 1) lines)
unfolding call_lines_from
first_to_commit [] within = absurd (let e : 0 < 0 = within in omega arith)
first_to_commit (line ∷ lines) within = at (commits line) (first_to_commit lines) within where
  at : (b : Bool) → (position_or_len commits lines < length lines → call_lines_from true lines ≡ take (position_or_len commits lines + 1) lines ∷ call_lines (drop (position_or_len commits lines + 1) lines))
      → cond (not b) (1 + position_or_len commits lines) 0 < suc (length lines)
      → cond b ((line ∷ []) ∷ call_lines lines) (with_line line (call_lines_from true lines)) ≡ take (cond (not b) (1 + position_or_len commits lines) 0 + 1) (line ∷ lines) ∷ call_lines (drop (cond (not b) (1 + position_or_len commits lines) 0 + 1) (line ∷ lines))
  at true behind within = refl
  at false behind within =
      let n : ℕ = position_or_len commits lines in
      let inner : n < length lines = (let e : 1 + n < suc (length lines) = within in omega (arith, e)) in
      let later : 1 + n + 1 ≡ suc (n + 1) = omega arith in
      ap (with_line line) (behind inner) ∙ ap (λ (m : ℕ). take m (line ∷ lines) ∷ call_lines (drop m (line ∷ lines))) (sym later)

-- all are it where there is none
all_if_none : (lines : List ScriptLine) → length lines ≤ position_or_len commits lines → (line : ScriptLine) → with_line line (call_lines_from true lines) ≡ (line ∷ lines) ∷ []
unfolding call_lines_from
all_if_none [] none line = refl
all_if_none (next ∷ lines) none line = at (commits next) (all_if_none lines) none where
  at : (b : Bool) → (length lines ≤ position_or_len commits lines → (line : ScriptLine) → with_line line (call_lines_from true lines) ≡ (line ∷ lines) ∷ []) → suc (length lines) ≤ cond (not b) (1 + position_or_len commits lines) 0 → with_line line (cond b ((next ∷ []) ∷ call_lines lines) (with_line next (call_lines_from true lines))) ≡ (line ∷ next ∷ lines) ∷ []
  at true behind none = absurd (let e : suc (length lines) ≤ 0 = none in omega (arith, e))
  at false behind none = ap (with_line line) (behind (let e : suc (length lines) ≤ 1 + position_or_len commits lines = none in omega (arith, e)) next)

-- so they are the first transaction
pub first_of_all : (lines : List ScriptLine) → 1 ≤ length lines → length lines ≤ position_or_len commits lines → call_lines_from true lines ≡ take (length lines) lines ∷ call_lines (drop (length lines) lines)
unfolding call_lines_from
first_of_all [] some none = absurd (let e : 1 ≤ 0 = some in omega (arith, e))
first_of_all (line ∷ lines) some none = at (commits line) none where
  dropped : (xs : List ScriptLine) → drop (length xs) xs ≡ []
  dropped [] = refl
  dropped (x ∷ xs) = dropped xs

  at : (b : Bool) → suc (length lines) ≤ cond (not b) (1 + position_or_len commits lines) 0 → cond b ((line ∷ []) ∷ call_lines lines) (with_line line (call_lines_from true lines)) ≡ (line ∷ take (length lines) lines) ∷ call_lines (drop (length lines) lines)
  at true none = absurd (let e : suc (length lines) ≤ 0 = none in omega (arith, e))
  at false none =
      all_if_none lines (let e : suc (length lines) ≤ 1 + position_or_len commits lines = none in omega (arith, e)) line
      ∙ ap (λ (ls : List ScriptLine). (line ∷ ls) ∷ []) (sym (take-length lines)) ∙ ap (λ (ls : List ScriptLine). (line ∷ take (length lines) lines) ∷ call_lines ls) (sym (dropped lines))

-- lines of which the first does not stand alone are of a transaction
pub begins_inside : (line : ScriptLine) (lines : List ScriptLine) → stands_alone line.operation ≡ false → call_lines (line ∷ lines) ≡ call_lines_from true (line ∷ lines)
unfolding call_lines_from
begins_inside line lines other = ap (λ (b : Bool). cond b ((line ∷ []) ∷ call_lines lines) (with_line line (call_lines_from true lines))) (or_none (is_commit line.operation) (stands_alone line.operation) other) where
  or_none : (a b : Bool) → b ≡ false → (a || b) ≡ a
  or_none true b none = refl
  or_none false b none = none

-- one that stands alone is the first call
pub alone_first : (line : ScriptLine) (lines : List ScriptLine) → stands_alone line.operation ≡ true → call_lines (line ∷ lines) ≡ (line ∷ []) ∷ call_lines lines
unfolding call_lines_from
alone_first line lines alone = ap (λ (b : Bool). cond b ((line ∷ []) ∷ call_lines lines) (with_line line (call_lines_from true lines))) (or_right (is_commit line.operation) (stands_alone line.operation) alone)

-- the same of lines whose first is given
pub first_inside : (lines : List ScriptLine) (first : ScriptLine) → 1 ≤ length lines → first ≡ get_or lines 0 first → stands_alone first.operation ≡ false → call_lines lines ≡ call_lines_from true lines
first_inside [] first some is other = absurd (omega (arith, some))
first_inside (line ∷ lines) first some is other = begins_inside line lines (ap (λ (l : ScriptLine). stands_alone l.operation) (sym is) ∙ other)

pub first_alone : (lines : List ScriptLine) (first : ScriptLine) → 1 ≤ length lines → first ≡ get_or lines 0 first → stands_alone first.operation ≡ true → call_lines lines ≡ take 1 lines ∷ call_lines (drop 1 lines)
first_alone [] first some is alone = absurd (omega (arith, some))
first_alone (line ∷ lines) first some is alone = alone_first line lines (ap (λ (l : ScriptLine). stands_alone l.operation) (sym is) ∙ alone)

-- the commit's place, as it is found
pub commit_found : (lines : List ScriptLine) (n i : ℕ) → Some i ≡ cond (ltb n (length lines)) (Some n) None → (n ≡ i) × (n < length lines)
commit_found lines n i is = at (ltb n (length lines)) refl is where
  at : (b : Bool) → ltb n (length lines) ≡ b → Some i ≡ cond b (Some n) None → (n ≡ i) × (n < length lines)
  at true less found = (cc, grind (arith, nat_tests))
  at false less found = absurd (cc)

-- or that there is none
pub no_commit : (lines : List ScriptLine) (n : ℕ) → None ≡ cond (ltb n (length lines)) (Some n) None → length lines ≤ n
no_commit lines n is = at (ltb n (length lines)) refl is where
  at : (b : Bool) → ltb n (length lines) ≡ b → None ≡ cond b (Some n) None → length lines ≤ n
  at true less found = absurd (cc)
  at false less found = grind (arith, nat_tests)
