use Rattle.pm_call.proofs.GivingUp.{transactions_may_be_given_up}
use Rattle.pm_call.proofs.laws.transactions_may_be_given_up.Goals as goal

pub returns : goal.returns
returns c = transactions_may_be_given_up
