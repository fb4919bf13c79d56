use Rattle.solo_crash.proofs.Written.{new_object_written}
use Rattle.solo_crash.proofs.blocks.a_write_in_a_new_object_stays.Goals as goal

pub returns : goal.returns
returns c = new_object_written
