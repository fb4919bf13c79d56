use Rattle.pm_world.proofs.Reopens.{recovered_opens}
use Rattle.pm_world.proofs.opening.recovery_opens_a_world.Goals as goal

pub returns : goal.returns
returns c = recovered_opens
