use Rattle.pm_model.proofs.Frames.{framed}
use Rattle.pm_model.proofs.laws.calls_have_parts.Goals as goal

pub returns : goal.returns
returns c = framed
