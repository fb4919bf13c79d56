-- What the calls of lines have in common with the lines.
use Rattle.std.proofs.Common.{◌≡◌, ◌==◌, ℕ, zero, suc, ◌+◌, ◌<◌, ◌≤◌, Bool, true, false, cond, List, [], ◌∷◌, length, refl, ap, ◌∙◌, subst, arith}
use Rattle.std.specs.List.{All, Contains, flat_map}
use Rattle.std.specs.List.Sorted.{IsStrictlyIncreasing}
use Rattle.std.specs.Prelude.{slice_index}
use Rattle.std.proofs.lemmas.Bool.{eqb-true}
use Rattle.std.proofs.lemmas.List.Elements.{All-cons, All-contains_itself, All-head, All-nil, All-tail}
use Rattle.pm_script.specs.Scripts.{of_lane}
use Rattle.pm_script.specs.declared.script.ScriptLine.{ScriptLine}
use Rattle.pm_calls.specs.Calls.{LinesRise, calls_from, calls_of, level_behind, numbers_of, with_line}

-- ---- INDUCTION, by what is open after a line

module _ (C : ℕ → List ScriptLine → List (List ScriptLine) → Type 0)
    (none : (level : ℕ) → C level [] [])
    (ends : (level : ℕ) (line : ScriptLine) (lines : List ScriptLine) → level_behind level line.operation ≡ 0
    → C 0 lines (calls_from 0 lines) → C level (line ∷ lines) ((line ∷ []) ∷ calls_from 0 lines))
    (goes_on : (level : ℕ) (line : ScriptLine) (lines : List ScriptLine) → 1 ≤ level_behind level line.operation
    → C (level_behind level line.operation) lines (calls_from (level_behind level line.operation) lines)
    → C level (line ∷ lines) (with_line line (calls_from (level_behind level line.operation) lines))) where
  first : (level : ℕ) (line : ScriptLine) (lines : List ScriptLine) (b : Bool) → (level_behind level line.operation == 0) ≡ b
      → C 0 lines (calls_from 0 lines) → C (level_behind level line.operation) lines (calls_from (level_behind level line.operation) lines)
      → C level (line ∷ lines) (cond b ((line ∷ []) ∷ calls_from 0 lines) (with_line line (calls_from (level_behind level line.operation) lines)))
  first level line lines true is over inside = ends level line lines (eqb-true (level_behind level line.operation) 0 is) over
  first level line lines false is over inside = goes_on level line lines (some (level_behind level line.operation) is) inside where
    some : (n : ℕ) → (n == 0) ≡ false → 1 ≤ n
    some zero is = cc
    some (suc n) is = omega arith

  pub by_calls : (level : ℕ) (lines : List ScriptLine) → C level lines (calls_from level lines)
  unfolding calls_from
  by_calls level [] = none level
  by_calls level (line ∷ lines) = first level line lines (level_behind level line.operation == 0) refl (by_calls 0 lines) (by_calls (level_behind level line.operation) lines)

-- ---- THE SAME LINES

joined_with : (line : ScriptLine) (calls : List (List ScriptLine)) → flat_map (λ (call : List ScriptLine). call) (with_line line calls) ≡ line ∷ flat_map (λ (call : List ScriptLine). call) calls
joined_with line [] = refl
joined_with line (call ∷ calls) = refl

pub calls_join : (level : ℕ) (lines : List ScriptLine) → flat_map (λ (call : List ScriptLine). call) (calls_from level lines) ≡ lines
calls_join = by_calls (λ level lines calls. flat_map (λ (call : List ScriptLine). call) calls ≡ lines)
    (λ level. refl)
    (λ level line lines over is. ap (λ l. line ∷ l) is)
    (λ level line lines open_ is. joined_with line (calls_from (level_behind level line.operation) lines) ∙ ap (λ l. line ∷ l) is)

-- ---- SOME LINES

abbrev HasSome : List ScriptLine → Type 0
HasSome call = 1 ≤ length call

some_with : (line : ScriptLine) (calls : List (List ScriptLine)) → All HasSome calls → All HasSome (with_line line calls)
some_with line [] all = All-cons HasSome (line ∷ []) [] (omega arith) all
some_with line (call ∷ calls) all = All-cons HasSome (line ∷ call) calls (omega arith) (All-tail HasSome call calls all)

pub calls_have_some : (level : ℕ) (lines : List ScriptLine) → All (λ (call : List ScriptLine). 1 ≤ length call) (calls_from level lines)
calls_have_some = by_calls (λ level lines calls. All HasSome calls)
    (λ level. All-nil HasSome)
    (λ level line lines over all. All-cons HasSome (line ∷ []) (calls_from 0 lines) (omega arith) all)
    (λ level line lines open_ all. some_with line (calls_from (level_behind level line.operation) lines) all)

-- ---- WHAT HOLDS OF EACH LINE

module _ (P : ScriptLine → Type 0) where
  every_with : (line : ScriptLine) (calls : List (List ScriptLine)) → P line → All (All P) calls → All (All P) (with_line line calls)
  every_with line [] here all = All-cons (All P) (line ∷ []) [] (All-cons P line [] here (All-nil P)) all
  every_with line (call ∷ calls) here all = All-cons (All P) (line ∷ call) calls (All-cons P line call here (All-head (All P) call calls all)) (All-tail (All P) call calls all)

  calls_keep : (level : ℕ) (lines : List ScriptLine) → All P lines → All (All P) (calls_from level lines)
  calls_keep = by_calls (λ level lines calls. All P lines → All (All P) calls)
      (λ level all. All-nil (All P))
      (λ level line lines over rest all. All-cons (All P) (line ∷ []) (calls_from 0 lines) (All-cons P line [] (All-head P line lines all) (All-nil P)) (rest (All-tail P line lines all)))
      (λ level line lines open_ rest all. every_with line (calls_from (level_behind level line.operation) lines) (All-head P line lines all) (rest (All-tail P line lines all)))

pub calls_are_among : (lines : List ScriptLine) → All (All (Contains lines)) (calls_of lines)
calls_are_among lines = calls_keep (Contains lines) 0 lines (All-contains_itself lines)

-- ---- RISING LINES

-- each number is above the one before it, and none is below the first bound
abbrev Rises : ℕ → List ℕ → Type 0
Rises n [] = Unit {0}
Rises n (x ∷ xs) = (n ≤ x) × Rises (x + 1) xs

lower : (n m : ℕ) (xs : List ℕ) → n ≤ m → Rises m xs → Rises n xs
lower n m [] below rises = tt
lower n m (x ∷ xs) below rises = (let low = rises.0 in omega (arith, low, below), rises.1)

later : (x : ℕ) (xs : List ℕ) → IsStrictlyIncreasing (x ∷ xs) → IsStrictlyIncreasing xs
later x xs up = λ k low.
    let more : suc k + 1 ≡ suc (k + 1) = omega arith in
    subst (λ m. slice_index xs k < slice_index (x ∷ xs) m) more (up (suc k) (omega (arith, low)))

rises_after : (x : ℕ) (xs : List ℕ) → IsStrictlyIncreasing (x ∷ xs) → Rises (x + 1) xs
rises_after x [] up = tt
rises_after x (y ∷ ys) up = (let above : x < y = up 0 (omega arith) in omega (arith, above), rises_after y ys (later x (y ∷ ys) up))

rises : (xs : List ℕ) → IsStrictlyIncreasing xs → Rises 0 xs
rises [] up = tt
rises (x ∷ xs) up = (omega arith, rises_after x xs up)

increases : (n : ℕ) (xs : List ℕ) (k : ℕ) → Rises n xs → k + 1 < length xs → slice_index xs k < slice_index xs (k + 1)
increases n [] k rises low = absurd (omega (arith, low))
increases n (x ∷ []) k rises low = absurd (omega (arith, low))
increases n (x ∷ y ∷ xs) zero rises low = let next = rises.1.0 in omega (arith, next)
increases n (x ∷ y ∷ xs) (suc k) rises low =
    let more : suc (k + 1) ≡ suc k + 1 = omega arith in
    subst (λ m. slice_index (x ∷ y ∷ xs) (suc k) < slice_index (x ∷ y ∷ xs) m) more (increases (x + 1) (y ∷ xs) k rises.1 (omega (arith, low)))

rising : (n : ℕ) (lines : List ScriptLine) → Rises n (numbers_of lines) → LinesRise lines
rising n lines up = λ k low. increases n (numbers_of lines) k up low

-- calls, the first of which begins at such a line or later
abbrev RiseFrom : ℕ → List (List ScriptLine) → Type 0
RiseFrom n [] = Unit {0}
RiseFrom n (call ∷ calls) = Rises n (numbers_of call) × All LinesRise calls

all_rise : (n : ℕ) (calls : List (List ScriptLine)) → RiseFrom n calls → All LinesRise calls
all_rise n [] up = All-nil LinesRise
all_rise n (call ∷ calls) up = All-cons LinesRise call calls (rising n call up.0) up.1

rising_with : (n : ℕ) (line : ScriptLine) (calls : List (List ScriptLine)) → n ≤ line.line → RiseFrom (line.line + 1) calls → RiseFrom n (with_line line calls)
rising_with n line [] low up = ((low, tt), All-nil LinesRise)
rising_with n line (call ∷ calls) low up = ((low, up.0), up.1)

rise_from : (level : ℕ) (lines : List ScriptLine) → (n : ℕ) → Rises n (numbers_of lines) → RiseFrom n (calls_from level lines)
rise_from = by_calls (λ level lines calls. (n : ℕ) → Rises n (numbers_of lines) → RiseFrom n calls)
    (λ level n up. tt)
    (λ level line lines over rest n up. ((up.0, tt), all_rise (line.line + 1) (calls_from 0 lines) (rest (line.line + 1) up.1)))
    (λ level line lines open_ rest n up. rising_with n line (calls_from (level_behind level line.operation) lines) up.0 (rest (line.line + 1) up.1))

pub calls_rise : (lines : List ScriptLine) → LinesRise lines → All LinesRise (calls_of lines)
calls_rise lines up = all_rise 0 (calls_of lines) (rise_from 0 lines 0 (rises (numbers_of lines) up))

-- so do those of a lane
lane_rises : (lane n : ℕ) (lines : List ScriptLine) → Rises n (numbers_of lines) → Rises n (numbers_of (of_lane lane lines))
lane_rises lane n [] up = tt
lane_rises lane n (line ∷ lines) up = at (line.lane == lane) (lane_rises lane (line.line + 1) lines up.1) where
  at : (b : Bool) → Rises (line.line + 1) (numbers_of (of_lane lane lines)) → Rises n (numbers_of (cond b (line ∷ of_lane lane lines) (of_lane lane lines)))
  at true rest = (up.0, rest)
  at false rest = lower n (line.line + 1) (numbers_of (of_lane lane lines)) (let low = up.0 in omega (arith, low)) rest

pub lines_of_lane_rise : (lane : ℕ) (lines : List ScriptLine) → LinesRise lines → LinesRise (of_lane lane lines)
lines_of_lane_rise lane lines up = rising 0 (of_lane lane lines) (lane_rises lane 0 lines (rises (numbers_of lines) up))
