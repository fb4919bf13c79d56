use Rattle.std.proofs.Common.{◌+◌, ◌/◌}
use Rattle.solo_world.specs.Sequences.{IsMade, counted}
use Rattle.solo_tx.specs.Sequences.{writes_word}
use Rattle.solo_tx.proofs.words.write_words.Given as goal

-- the first so many words are stored
abbrev pub invariant-loop-i : goal.invariant-loop-i
invariant-loop-i g l = IsMade (g.M.LaneMem.at l.fn.mem) (g.M.LaneMem.at l.mem) (counted (λ i. writes_word l.place l.bytes (l.place / 8 + i)) l.i)
