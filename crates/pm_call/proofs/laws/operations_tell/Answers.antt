use Rattle.pm_call.proofs.ToldPlans.{adds_tell, cancels_tell, commits_tell, increments_tell, inner_commits_tell, logs_tell, lone_calls_tell, publishes_tell, reads_tell, rollbacks_tell, writes_tell}
use Rattle.pm_call.proofs.laws.operations_tell.Goals as goal

pub returns-clause-adds : goal.returns-clause-adds
returns-clause-adds c = adds_tell

pub returns-clause-writes : goal.returns-clause-writes
returns-clause-writes c = writes_tell

pub returns-clause-reads : goal.returns-clause-reads
returns-clause-reads c = reads_tell

pub returns-clause-increments : goal.returns-clause-increments
returns-clause-increments c = increments_tell

pub returns-clause-cancels : goal.returns-clause-cancels
returns-clause-cancels c = cancels_tell

pub returns-clause-inner_commits : goal.returns-clause-inner_commits
returns-clause-inner_commits c = inner_commits_tell

pub returns-clause-rollbacks : goal.returns-clause-rollbacks
returns-clause-rollbacks c = rollbacks_tell

pub returns-clause-commits : goal.returns-clause-commits
returns-clause-commits c = commits_tell

pub returns-clause-logs : goal.returns-clause-logs
returns-clause-logs c = logs_tell

pub returns-clause-lone_calls : goal.returns-clause-lone_calls
returns-clause-lone_calls c = lone_calls_tell

pub returns-clause-publishes : goal.returns-clause-publishes
returns-clause-publishes c = publishes_tell
