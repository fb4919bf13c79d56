use Rattle.pm_call.proofs.FewStores.{entries_are_stored, over_has_no_entry, records_are_few, runs_make_few_stores, table_of_stores, work_has_no_entry}
use Rattle.pm_call.proofs.IdleCalls.{counted_calls_are_three, drains_are_few, flushes_are_few}
use Rattle.pm_call.proofs.laws.plans_make_few_stores.Goals as goal

pub returns-clause-table : goal.returns-clause-table
returns-clause-table c = table_of_stores

pub returns-clause-at_work : goal.returns-clause-at_work
returns-clause-at_work c = work_has_no_entry

pub returns-clause-over : goal.returns-clause-over
returns-clause-over c = over_has_no_entry

pub returns-clause-entries : goal.returns-clause-entries
returns-clause-entries c = entries_are_stored

pub returns-clause-records : goal.returns-clause-records
returns-clause-records c = records_are_few

pub returns-clause-runs : goal.returns-clause-runs
returns-clause-runs c = runs_make_few_stores

pub returns-clause-flushes : goal.returns-clause-flushes
returns-clause-flushes c = flushes_are_few

pub returns-clause-drains : goal.returns-clause-drains
returns-clause-drains c = drains_are_few

pub returns-clause-calls : goal.returns-clause-calls
returns-clause-calls c = counted_calls_are_three
