use Rattle.solo_crash.proofs.FreshObjects.{filled_is_new}
use Rattle.solo_crash.proofs.blocks.a_filled_block_has_a_new_object.Goals as goal

pub returns : goal.returns
returns c = filled_is_new
