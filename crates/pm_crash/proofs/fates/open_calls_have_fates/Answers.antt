use Rattle.pm_crash.proofs.OpenCalls as fates
use Rattle.pm_crash.proofs.fates.open_calls_have_fates.Goals as goal

pub returns-clause-others : goal.returns-clause-others
returns-clause-others _ = fates.others

pub returns-clause-open_call : goal.returns-clause-open_call
returns-clause-open_call _ = fates.judges
