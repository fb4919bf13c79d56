use Rattle.pm_model.proofs.Frames.{stand_earlier}
use Rattle.pm_model.proofs.laws.late_calls_stand_earlier.Goals as goal

pub returns : goal.returns
returns c = stand_earlier
