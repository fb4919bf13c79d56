use Rattle.solo_model.proofs.Replaying.{stand_earlier}
use Rattle.solo_model.proofs.laws.late_calls_stand_earlier.Goals as goal

pub returns : goal.returns
returns c = stand_earlier
