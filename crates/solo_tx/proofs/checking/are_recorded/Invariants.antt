use Rattle.std.proofs.Common.{◌≡◌, ℕ, ◌+◌, ◌/◌, ◌<◌, true}
use Rattle.solo_model.specs.Bytes.{is_among}
use Rattle.solo_undo.specs.Spans.{words_in}
use Rattle.solo_tx.proofs.checking.are_recorded.Given as goal

-- the first so many words are recorded
abbrev pub invariant-loop-i : goal.invariant-loop-i
invariant-loop-i l = (k : ℕ) → k < l.i → is_among (words_in l.records) (l.place / 8 + k) ≡ true
