use Rattle.std.proofs.Common.{sym, ◌∙◌, refl}
use Rattle.solo_occupancy.proofs.Chunks.{told_with, told_without}
use Rattle.solo_occupancy.proofs.taken.TakenChunks.with_next.Goals as goal

pub returns-then-is_taken : goal.returns-then-is_taken
returns-then-is_taken c words lanes zone before here =
    told_with words lanes zone c.args.chunk c.args.descriptor c.furthest_end-end.result c.with_bit-bits.result c.args.self before here c.furthest_end-end.ensures (sym c.is_taken.ensures ∙ c.if-is_taken.true)
    c.with_bit-bits.ensures.set c.with_bit-bits.ensures.others

pub returns-else-is_taken : goal.returns-else-is_taken
returns-else-is_taken c words lanes zone before here =
    told_without words lanes zone c.args.chunk c.args.descriptor c.furthest_end-end.result c.args.self.bits c.args.self before here c.furthest_end-end.ensures (sym c.is_taken.ensures ∙ c.if-is_taken.false) refl
