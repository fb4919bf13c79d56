use Rattle.pm_image.proofs.WholeImage.{all_recovered}
use Rattle.pm_image.proofs.restoring.recovered_words.Goals as goal

pub returns : goal.returns
returns c =
    all_recovered c.args.image.now c.in_ok-words.words c.args.lanes c.args.logs.now.entries.items c.args.logs.now.records.items
    c.requires.entries c.requires.records (c.in_ok-words.ensures {u = tt}).as_long (c.in_ok-words.ensures {u = tt}).each
