-- Where the lines of a text begin.
use Rattle.std.proofs.Common.{◌≡◌, ℕ, ◌+◌, ◌-◌, ◌<◌, List, ◌++◌, length, get_or, eqb, position, MatchOption, Option, Some, None, inr, refl, ◌∙◌, ap, arith, length-append}
use Rattle.std.proofs.lemmas.Bool.{eqb-true}
use Rattle.std.proofs.lemmas.List.{get_or-append-add}
use Rattle.std.proofs.lemmas.List.Quantifiers.{position-Some}
use Rattle.pm_text.specs.Lines.{IsLineStart}

-- as many bytes as the first line has with its line feed
abbrev pub IsFirstLineLength : List ℕ → ℕ → Type 0
IsFirstLineLength text n = MatchOption (position (λ byte. eqb byte 10) text) (n ≡ length text) (λ i. n ≡ i + 1)

ends_in_line_feed : (rest : List ℕ) (n : ℕ) (found : Option ℕ) → position (λ byte. eqb byte 10) rest ≡ found → MatchOption found (n ≡ length rest) (λ i. n ≡ i + 1) → n < length rest
    → (0 < n) × (get_or rest (n - 1) 0 ≡ 10)
ends_in_line_feed rest n None is long inside = absurd (omega arith)
ends_in_line_feed rest n (Some i) is next inside =
    let there = position-Some (λ byte. eqb byte 10) rest i 0 is in
    let place : n - 1 ≡ i = omega arith in
    (omega arith, ap (λ (k : ℕ). get_or rest k 0) place ∙ eqb-true (get_or rest i 0) 10 there.1)

-- behind a line, where something is left, stands a line feed
pub next_start : (text front rest line rest_after : List ℕ) → text ≡ front ++ rest → rest ≡ line ++ rest_after → IsFirstLineLength rest (length line) → 0 < length rest_after → IsLineStart text (length (front ++ line))
next_start text front rest line rest_after split cut first some =
    let n : ℕ = length line in
    let inside : n < length rest = omega (arith, ap (λ (xs : List ℕ). length xs) cut, length-append line rest_after) in
    let ends : (0 < n) × (get_or rest (n - 1) 0 ≡ 10) = ends_in_line_feed rest n (position (λ byte. eqb byte 10) rest) refl first inside in
    let place : length (front ++ line) - 1 ≡ length front + (n - 1) = omega (arith, length-append front line, ends.0) in
    inr (ap (λ (xs : List ℕ). get_or xs (length (front ++ line) - 1) 0) split ∙ ap (λ (k : ℕ). get_or (front ++ rest) k 0) place ∙ get_or-append-add front rest (n - 1) 0 ∙ ends.1)
