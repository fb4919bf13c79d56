use Rattle.solo_world.proofs.Losses.{acknowledged}
use Rattle.solo_world.proofs.laws.an_acknowledged_call_is_kept.Goals as goal

pub returns : goal.returns
returns c = acknowledged
