use Rattle.solo_sealed.proofs.NoFaults.{no_fault}
use Rattle.solo_sealed.proofs.laws.a_published_log_has_no_fault.Goals as goal

pub returns : goal.returns
returns c = no_fault
