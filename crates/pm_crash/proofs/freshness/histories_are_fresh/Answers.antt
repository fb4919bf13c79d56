use Rattle.pm_crash.proofs.Fresh as fresh
use Rattle.pm_crash.proofs.freshness.histories_are_fresh.Goals as goal

pub returns-clause-numbers : goal.returns-clause-numbers
returns-clause-numbers _ = fresh.numbers

pub returns-clause-root : goal.returns-clause-root
returns-clause-root _ = fresh.root
