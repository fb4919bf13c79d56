use Rattle.solo_tx.proofs.GiveUpCourse.{gives_up_of}
use Rattle.solo_tx.proofs.generations.a_call_given_up_ends_one_generation.Goals as goal

pub returns : goal.returns
returns c = gives_up_of
