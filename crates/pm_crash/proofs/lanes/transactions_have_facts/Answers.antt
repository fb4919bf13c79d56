use Rattle.pm_crash.proofs.SimFacts.{sims_are_facts}
use Rattle.pm_crash.proofs.lanes.transactions_have_facts.Goals as goal

pub returns : goal.returns
returns c = sims_are_facts
