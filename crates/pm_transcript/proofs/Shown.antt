-- What is shown of an answer whose lines are as many as were wanted.
use Rattle.std.proofs.Common.{◌≡◌, ◌∙◌, ℕ, ◌<◌, List, length, drop, codes, ap}
use Rattle.std.proofs.lemmas.List.{at_drop_more}
use Rattle.pm_transcript.specs.Lines.{shown}

-- the rest is left out, where there is any
pub rest_left_out : (answer : List ℕ) (i left : ℕ) → left ≡ 0 → i < length answer → shown (drop i answer) left ≡ codes "..\n"
rest_left_out answer i left none inside =
    ap (λ (n : ℕ). shown (drop i answer) n) none ∙ at_drop_more (λ (rest : List ℕ). shown rest 0) answer i 0 inside
