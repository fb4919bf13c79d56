use Rattle.solo_epoch.proofs.FilledBlocks.{filled_is_fresh}
use Rattle.solo_epoch.proofs.laws.a_filled_block_is_fresh.Goals as goal

pub returns : goal.returns
returns c = filled_is_fresh
