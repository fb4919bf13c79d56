use Rattle.pm_lanes.proofs.MissedCalls.{entries_before, have_causes}
use Rattle.pm_lanes.proofs.laws.missed_calls_have_causes.Goals as goal

pub returns-clause-causes : goal.returns-clause-causes
returns-clause-causes c = have_causes

pub returns-clause-before : goal.returns-clause-before
returns-clause-before c = entries_before
