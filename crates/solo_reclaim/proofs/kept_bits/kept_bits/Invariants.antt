use Rattle.std.proofs.Common.{◌≡◌, ◌↔◌, ℕ}
use Rattle.std.specs.Int.{bit_at}
use Rattle.solo_reclaim.proofs.KeptBits.{IsBitOfFirst}
use Rattle.solo_reclaim.proofs.kept_bits.kept_bits.Given as goal

-- the bits are those of the first so many blocks
abbrev pub invariant-loop-block : goal.invariant-loop-block
invariant-loop-block l = (bit : ℕ) → (bit_at l.bits bit ≡ 1) ↔ IsBitOfFirst l.shape.lanes l.kept l.block-index l.at bit
