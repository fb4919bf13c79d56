use Rattle.pm_call.proofs.RefusedPublications as refused
use Rattle.pm_call.proofs.outside.refused_publications_end.Goals as goal

pub returns-clause-ended : goal.returns-clause-ended
returns-clause-ended c = refused.refused_publications_end

pub returns-clause-tried : goal.returns-clause-tried
returns-clause-tried c = refused.tried_locks_leave_open
