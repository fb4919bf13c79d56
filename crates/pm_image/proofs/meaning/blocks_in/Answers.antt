use Rattle.std.proofs.Common.{◌*◌, ℕ, length, sym, ◌∙◌, ap}
use Rattle.pm_image.proofs.WholeImage.{length-recovered_words}
use Rattle.pm_image.proofs.meaning.blocks_in.Goals as goal

pub blocks_of_words-requires : goal.blocks_of_words-requires
blocks_of_words-requires c =
    c.requires ∙ ap (λ (n : ℕ). 8 * n) (sym (ap length (c.in_ok-words.ensures {u = tt}) ∙ length-recovered_words c.args.image.now c.args.shape.lanes))
