use Rattle.std.proofs.Common.{◌+◌, ◌*◌, slice_index, sym, ap, arith}
use Rattle.solo_occupancy.proofs.occupancy.chunks_word.Goals as goal

pub loop-chunk-init : goal.loop-chunk-init
loop-chunk-init c = c.none-taken.ensures (slice_index c.args.words.now) c.args.shape.lanes c.args.zone

pub loop-chunk-preserved : goal.loop-chunk-preserved
loop-chunk-preserved c =
    c.with_next-taken.ensures (slice_index c.args.words.now) c.args.shape.lanes c.args.zone c.loop-chunk.invariant
    (ap (λ p. slice_index c.args.words.now (512 * p + c.loop-chunk.chunk)) (sym c.zone_page-descriptors.ensures))

pub returns : goal.returns
returns c chunk low = c.loop-chunk.invariant.below chunk (omega (arith, low))
