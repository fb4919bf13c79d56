use Rattle.pm_call.proofs.OpenedCalls as opened
use Rattle.pm_call.proofs.locking.transactions_may_begin.Goals as goal

pub returns : goal.returns
returns c = opened.transactions_may_begin
