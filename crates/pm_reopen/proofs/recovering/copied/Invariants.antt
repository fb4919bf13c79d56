use Rattle.std.proofs.Common.{◌≡◌, ℕ, ◌<◌, ◌^◌, take, slice_index}
use Rattle.pm_reopen.proofs.recovering.copied.Given as goal

pub record AreCopied (image words : Rattle.std.proofs.Common.List ℕ) (i : ℕ) : Type 0 where
  pub same : words ≡ take i image
  pub small : (w : ℕ) → w < i → slice_index image w < 2 ^ 64

abbrev pub invariant-loop-i : goal.invariant-loop-i
invariant-loop-i l = AreCopied l.image l.words.items l.i
