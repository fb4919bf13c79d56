use Rattle.std.proofs.Common.{get_or, ◌∙◌, ap}
use Rattle.pm_image.specs.Blocks.{class_in, descriptor_word}
use Rattle.pm_info.specs.Facts.{is_run}
use Rattle.pm_info.proofs.Sums.{counted_more}
use Rattle.pm_info.proofs.counts.runs_in.Goals as goal

pub loop-chunk-preserved : goal.loop-chunk-preserved
loop-chunk-preserved c =
    counted_more (λ chunk. is_run (class_in (get_or c.args.words.now (descriptor_word c.args.lanes chunk) 0))) c.loop-chunk.chunk c.loop-chunk.count c.from-count.result c.is_run.result c.loop-chunk.invariant.0 c.loop-chunk.invariant.1
    c.from-count.ensures (c.is_run.ensures ∙ ap (λ d. is_run (class_in d)) (c.word.ensures ∙ ap (λ at. get_or c.args.words.now at 0) c.descriptor_at.ensures))
