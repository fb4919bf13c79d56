use Rattle.solo_crash.proofs.Runs.{has_run}
use Rattle.solo_crash.proofs.calls.a_transaction_that_rests_has_run.Goals as goal

pub returns : goal.returns
returns c = has_run
