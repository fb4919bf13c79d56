use Rattle.pm_reopen.proofs.AllLanes.{recovered_again}
use Rattle.pm_reopen.proofs.laws.stopped_recovery_keeps_the_meaning.Goals as goal

pub returns : goal.returns
returns c = λ image left pool made r survives. recovered_again image left pool made r survives
