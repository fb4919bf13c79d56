use Rattle.pm_crash.proofs.OpenCalls as fates
use Rattle.pm_crash.proofs.fates.awaited_stores_are_single.Goals as goal

pub returns-clause-begins : goal.returns-clause-begins
returns-clause-begins _ = fates.begins

pub returns-clause-goes_on : goal.returns-clause-goes_on
returns-clause-goes_on _ = fates.keeps

pub returns-clause-runs : goal.returns-clause-runs
returns-clause-runs _ = fates.runs
