use Rattle.pm_world.proofs.Bare.{bare_opens}
use Rattle.pm_world.proofs.opening.bare_words_open_a_world.Goals as goal

pub returns : goal.returns
returns c = bare_opens
