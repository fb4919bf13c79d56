use Rattle.pm_model.proofs.Frames.{come_last}
use Rattle.pm_model.proofs.laws.apart_calls_come_last.Goals as goal

pub returns : goal.returns
returns c = come_last
