-- The calls of lines, taken one after another.
use Rattle.std.proofs.Common.{◌≡◌, ℕ, ◌+◌, ◌-◌, ◌≤◌, List, [], ◌∷◌, ◌++◌, length, map, take, drop, append-nil, append_assoc, length-drop, sym, ap, ◌∙◌, subst, arith}
use Rattle.std.proofs.lemmas.List.{drop-drop, drop-map, map-append, take-map}
use Rattle.std.specs.Borrow.{Bor}
use Rattle.pm_script.specs.declared.script.ScriptLine.{ScriptLine}
use Rattle.pm_calls.specs.Calls.{calls_of, line_of}
use Rattle.pm_calls.specs.LaneRooms.{lines_to_run}
use Rattle.pm_calls.specs.declared.room.CallRoom.{CallRoom}
use Rattle.pm_calls.proofs.FirstCall.{all_dropped, all_taken, no_calls, said}

rest_is : (lines : List (Bor ScriptLine)) (start : ℕ) → take (length lines - start) (drop start lines) ≡ drop start lines
rest_is lines start = all_taken (drop start lines) (length lines - start) (omega (arith, length-drop start lines))

pub within : (lines : List (Bor ScriptLine)) (start n : ℕ) → start ≤ length lines → n ≤ length (take (length lines - start) (drop start lines)) → start + n ≤ length lines
within lines start n low inside =
    let some : n ≤ length (drop start lines) = subst (λ (rest : List (Bor ScriptLine)). n ≤ length rest) (rest_is lines start) inside in
    omega (arith, length-drop start lines, some, low)

-- the call of the lines from the start on
abbrev IsFirst : ℕ → List (Bor ScriptLine) → Type 0
IsFirst n rest = calls_of (said rest) ≡ take n (said rest) ∷ calls_of (drop n (said rest))

first_of_rest : (lines : List (Bor ScriptLine)) (start n : ℕ) → IsFirst n (drop start lines)
    → calls_of (said (drop start lines)) ≡ said (take n (drop start lines)) ∷ calls_of (said (drop (start + n) lines))
first_of_rest lines start n first =
    first
    ∙ ap (λ (call : List ScriptLine). call ∷ calls_of (drop n (said (drop start lines)))) (take-map line_of n (drop start lines))
    ∙ ap (λ (rest : List ScriptLine). said (take n (drop start lines)) ∷ calls_of rest) (drop-map line_of n (drop start lines) ∙ ap said (drop-drop n start lines))

-- with this call, those so far are the calls up to its end
pub one_call : (lines : List (Bor ScriptLine)) (start n : ℕ) (made more : List CallRoom) (room : CallRoom) → more ≡ made ++ room ∷ []
    → lines_to_run room ≡ said (take (start + n - start) (drop start lines)) → IsFirst n (take (length lines - start) (drop start lines))
    → map lines_to_run made ++ calls_of (said (drop start lines)) ≡ calls_of (said lines)
    → map lines_to_run more ++ calls_of (said (drop (start + n) lines)) ≡ calls_of (said lines)
one_call lines start n made more room pushed runs first so_far =
    let count : start + n - start ≡ n = omega arith in
    let call : lines_to_run room ≡ said (take n (drop start lines)) = runs ∙ ap (λ (m : ℕ). said (take m (drop start lines))) count in
    ap (λ (rooms : List CallRoom). map lines_to_run rooms ++ calls_of (said (drop (start + n) lines))) pushed
    ∙ ap (λ (calls : List (List ScriptLine)). calls ++ calls_of (said (drop (start + n) lines))) (map-append lines_to_run made (room ∷ []))
    ∙ append_assoc (map lines_to_run made) (lines_to_run room ∷ []) (calls_of (said (drop (start + n) lines)))
    ∙ ap (λ (l : List ScriptLine). map lines_to_run made ++ l ∷ calls_of (said (drop (start + n) lines))) call
    ∙ ap (λ (calls : List (List ScriptLine)). map lines_to_run made ++ calls) (sym (first_of_rest lines start n (subst (IsFirst n) (rest_is lines start) first)))
    ∙ so_far

pub all_made : (lines : List (Bor ScriptLine)) (start : ℕ) (made : List CallRoom) → length lines ≤ start
    → map lines_to_run made ++ calls_of (said (drop start lines)) ≡ calls_of (said lines) → map lines_to_run made ≡ calls_of (said lines)
all_made lines start made end so_far =
    sym (append-nil (map lines_to_run made))
    ∙ ap (λ (calls : List (List ScriptLine)). map lines_to_run made ++ calls) (sym (ap (λ (rest : List (Bor ScriptLine)). calls_of (said rest)) (all_dropped lines start end) ∙ no_calls 0))
    ∙ so_far
