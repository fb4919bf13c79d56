use Rattle.pm_crash.proofs.Replaying as replaying
use Rattle.pm_crash.proofs.histories.a_call_is_a_step.Goals as goal

pub returns : goal.returns
returns _ = replaying.call_is_step
