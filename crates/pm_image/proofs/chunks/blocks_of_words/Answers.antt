use Rattle.std.proofs.Common.{◌++◌, List, get_or, sym, ◌∙◌, ap}
use Rattle.pm_image.specs.Blocks.{chunk_blocks}
use Rattle.pm_image.specs.declared.block.Block.{Block}
use Rattle.pm_image.proofs.Ranges.{parts_more}
use Rattle.pm_image.proofs.chunks.blocks_of_words.Goals as goal

pub loop-chunk-preserved : goal.loop-chunk-preserved
loop-chunk-preserved c =
    record {
      addressable = c.in_ok-push_blocks.ensures.addressable c.loop-chunk.invariant.addressable;
      items =
          c.in_ok-push_blocks.ensures.items ∙ ap (λ (bs : List Block). bs ++ chunk_blocks (λ i. get_or c.args.words.now i 0) c.args.shape.lanes c.loop-chunk.chunk) c.loop-chunk.invariant.items
          ∙ sym (parts_more (chunk_blocks (λ i. get_or c.args.words.now i 0) c.args.shape.lanes) c.loop-chunk.chunk);
    }
