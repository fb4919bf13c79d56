use Rattle.pm_crash.proofs.EntryFacts as entries
use Rattle.pm_crash.proofs.histories.entries_have_facts.Goals as goal

pub returns-clause-draws : goal.returns-clause-draws
returns-clause-draws _ = entries.draws_keep_facts

pub returns-clause-histories : goal.returns-clause-histories
returns-clause-histories _ = entries.histories_have_facts

pub returns-clause-tried : goal.returns-clause-tried
returns-clause-tried _ = entries.histories_tried_locks

pub returns-clause-missed : goal.returns-clause-missed
returns-clause-missed _ = entries.histories_saw_misses
