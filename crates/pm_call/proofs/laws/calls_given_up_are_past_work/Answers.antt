use Rattle.pm_call.proofs.Closing.{given_up_are_past}
use Rattle.pm_call.proofs.laws.calls_given_up_are_past_work.Goals as goal

pub returns : goal.returns
returns g c = given_up_are_past g.M.LaneMem.at
