use Rattle.std.proofs.Common.{◌*◌, ◌++◌, sym, ◌∙◌, ap, arith}
use Rattle.std.proofs.lemmas.List.{take_all}
use Rattle.pm_words.specs.Words.{bytes_of}
use Rattle.pm_commands.proofs.FileBytes.{bytes_of_more}
use Rattle.pm_commands.proofs.image_bytes.image_bytes.Goals as goal

pub loop-line-init : goal.loop-line-init
unfolding bytes_of
loop-line-init c = c.new-bytes.ensures.items

pub loop-line-preserved : goal.loop-line-preserved
loop-line-preserved c =
    c.in_ok-extend_from_slice.ensures.items
    ∙ (λ k. c.loop-line.invariant k ++ (c.bytes_of.ensures.bytes ∙ ap bytes_of c.line.ensures) k)
    ∙ sym (bytes_of_more c.args.image.now c.loop-line.line)

pub returns : goal.returns
returns c = c.loop-line.invariant ∙ ap bytes_of (take_all (8 * c.loop-line.line) c.args.image.now (omega arith))
