use Rattle.solo_reclaim.proofs.KeptBits.{one_more}
use Rattle.solo_reclaim.proofs.kept_bits.kept_bits.Goals as goal

pub loop-block-preserved : goal.loop-block-preserved
loop-block-preserved c =
    one_more c.args.shape.lanes c.args.kept.now c.args.at c.loop-block.block-index c.loop-block.bits c.bits_of-bits.result (record { place = 0; lines = 0 }) c.loop-block-test.true c.loop-block.invariant c.bits_of-bits.ensures
