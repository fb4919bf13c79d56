use Rattle.solo_crash.proofs.ObjectsOfBlocks.{block_is_there, object_is_there}
use Rattle.solo_crash.proofs.laws.a_block_is_an_object.Goals as goal

pub returns-clause-object : goal.returns-clause-object
returns-clause-object c = object_is_there

pub returns-clause-block : goal.returns-clause-block
returns-clause-block c = block_is_there
