use Rattle.std.proofs.Common.{◌*◌, ℕ, length, sym, ◌∙◌, ap}
use Rattle.pm_image.proofs.WholeImage.{length-recovered_words}
use Rattle.pm_image.proofs.Meanings.{meaning_made}
use Rattle.pm_image.proofs.meaning.read_meaning.Goals as goal

pub sound_blocks-requires : goal.sound_blocks-requires
sound_blocks-requires c =
    (c.in_ok-shape.ensures {u = tt}).size
    ∙ ap (λ (n : ℕ). 8 * n) (sym (ap length (c.in_ok-words.ensures {u = tt}).words ∙ length-recovered_words c.args.image.now c.in_ok-shape.shape.lanes))

pub returns-clause-pool : goal.returns-clause-pool
returns-clause-pool c =
    meaning_made c.args.image.now c.in_ok-words.words c.in_ok-shape.shape.lanes c.in_ok-shape.shape.zones c.in_ok-header.header c.in_ok-pool.pool
    (c.in_ok-header.ensures {u = tt}).header (c.in_ok-header.ensures {u = tt}).fits (c.in_ok-words.ensures {u = tt}).words (c.in_ok-words.ensures {u = tt}).sound (c.in_ok-blocks.ensures {u = tt}).sound (c.in_ok-pool.ensures {u = tt})
