use Rattle.solo_world.proofs.OpeningLaw.{opening_law}
use Rattle.solo_world.proofs.laws.recovered_words_open_a_world.Goals as goal

pub returns : goal.returns
returns c = opening_law
