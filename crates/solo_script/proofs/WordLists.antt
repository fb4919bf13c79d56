-- The lines of a text and the words of a line, as lists of bytes.
use Rattle.std.proofs.Common.{◌≡◌, ℕ, ◌<◌, List, [], length, get_or, arith, Bor}
use Rattle.std.proofs.lemmas.List.{get_or-map, length-map}
use Rattle.solo_script.specs.Words.{texts}

-- a line or a word in memory
pub text_at : (lines : List (Bor (List ℕ))) (k : ℕ) (d : Bor (List ℕ)) → k < length lines → get_or (texts lines) k [] ≡ (get_or lines k d).now
text_at lines k d inside = get_or-map (λ (line : Bor (List ℕ)). line.now) lines k d [] inside

pub text_inside : (lines : List (Bor (List ℕ))) (k : ℕ) → k < length lines → k < length (texts lines)
text_inside lines k inside = omega (arith, length-map lines (λ (line : Bor (List ℕ)). line.now))
