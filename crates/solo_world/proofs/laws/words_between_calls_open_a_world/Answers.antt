use Rattle.solo_world.proofs.OpeningLaw.{between_calls_law}
use Rattle.solo_world.proofs.laws.words_between_calls_open_a_world.Goals as goal

pub returns : goal.returns
returns c = between_calls_law
