use Rattle.std.proofs.Common.{◌≡◌, ℕ, ◌+◌, ◌*◌, ◌/◌, ◌<◌, length, slice_index}
use Rattle.solo_view.specs.View.{View}
use Rattle.solo_world.specs.Sequences.{IsMade, Ready}
use Rattle.solo_undo.proofs.Looking.{all_looks}
use Rattle.solo_tx.specs.Sequences.{byte_in, reads}
use Rattle.solo_tx.proofs.words.read_words.Given as goal

-- the bytes in the first so many words are as the view has them
abbrev pub invariant-loop-i : goal.invariant-loop-i
invariant-loop-i g l = record {
  made : IsMade (g.M.LaneMem.at l.fn.mem) (g.M.LaneMem.at l.mem) (all_looks (l.place / 8) l.i);
  as_long : length l.into ≡ length l.fn.into;
  found : (v : View) → g.M.LaneMem.at l.fn.mem v → Ready v (reads l.place (length l.fn.into) v)
      → (k : ℕ) → k < length l.fn.into → l.place + k < 8 * (l.place / 8 + l.i) → slice_index l.into k ≡ byte_in v.words (l.place + k);
}
