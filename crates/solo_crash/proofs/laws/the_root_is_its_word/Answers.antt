use Rattle.solo_crash.proofs.ObjectsOfBlocks.{root_is_there}
use Rattle.solo_crash.proofs.laws.the_root_is_its_word.Goals as goal

pub returns-clause-there : goal.returns-clause-there
returns-clause-there c = root_is_there
