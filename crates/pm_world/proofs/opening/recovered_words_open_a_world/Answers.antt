use Rattle.pm_world.proofs.OpenFaults.{opens}
use Rattle.pm_world.proofs.opening.recovered_words_open_a_world.Goals as goal

pub returns : goal.returns
returns c = opens
