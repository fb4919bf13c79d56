use Rattle.solo_model.proofs.Replaying.{come_last}
use Rattle.solo_model.proofs.laws.apart_calls_come_last.Goals as goal

pub returns : goal.returns
returns c = come_last
