use Rattle.pm_model.proofs.Frames.{leave_out}
use Rattle.pm_model.proofs.laws.apart_calls_may_be_left_out.Goals as goal

pub returns : goal.returns
returns c = leave_out
