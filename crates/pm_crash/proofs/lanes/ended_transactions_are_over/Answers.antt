use Rattle.pm_crash.proofs.Rollbacks.{committed_calls, rolled_back_calls}
use Rattle.pm_crash.proofs.SimFacts.{calls_without_entries, calls_without_log, transactions_end, without_entries_have_facts}
use Rattle.pm_crash.proofs.lanes.ended_transactions_are_over.Goals as goal

pub returns-clause-ends : goal.returns-clause-ends
returns-clause-ends c = transactions_end

pub returns-clause-entries : goal.returns-clause-entries
returns-clause-entries c = calls_without_entries

pub returns-clause-log : goal.returns-clause-log
returns-clause-log c = calls_without_log

pub returns-clause-facts : goal.returns-clause-facts
returns-clause-facts c = without_entries_have_facts

pub returns-clause-rolled_back : goal.returns-clause-rolled_back
returns-clause-rolled_back c = rolled_back_calls

pub returns-clause-committed : goal.returns-clause-committed
returns-clause-committed c = committed_calls
