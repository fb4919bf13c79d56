use Rattle.solo_lock.proofs.Leading.{front_leads, ready_leads}
use Rattle.solo_tx.proofs.generations.steps_that_may_be_made_lead_on.Goals as goal

pub returns : goal.returns
returns c = record { all = ready_leads; first_ones = front_leads }
