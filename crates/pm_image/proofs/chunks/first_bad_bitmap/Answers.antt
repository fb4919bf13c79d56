use Rattle.std.proofs.Common.{◌*◌, get_or, refl, sym, ◌∙◌, arith}
use Rattle.pm_image.specs.HeapFaults.{bad_bitmap}
use Rattle.pm_image.proofs.Firsts.{none_more, first_there, none_at_end}
use Rattle.pm_image.proofs.chunks.first_bad_bitmap.Goals as goal

pub loop-chunk-init : goal.loop-chunk-init
loop-chunk-init c = refl

pub loop-chunk-preserved : goal.loop-chunk-preserved
loop-chunk-preserved c = none_more (bad_bitmap (λ i. get_or c.args.words.now i 0) c.args.shape.lanes) c.loop-chunk.chunk c.loop-chunk.invariant (sym c.is_bad_bitmap.ensures ∙ c.if-is_bad_bitmap.false)

pub returns-then-is_bad_bitmap : goal.returns-then-is_bad_bitmap
returns-then-is_bad_bitmap c = sym (first_there (bad_bitmap (λ i. get_or c.args.words.now i 0) c.args.shape.lanes) (64 * c.args.shape.zones) c.loop-chunk.chunk (omega arith) c.loop-chunk.invariant (sym c.is_bad_bitmap.ensures ∙ c.if-is_bad_bitmap.true))

pub returns : goal.returns
returns c = sym (none_at_end (bad_bitmap (λ i. get_or c.args.words.now i 0) c.args.shape.lanes) (64 * c.args.shape.zones) c.loop-chunk.chunk (omega arith) c.loop-chunk.invariant)
