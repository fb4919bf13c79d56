use Rattle.pm_lanes.proofs.Closed as closed
use Rattle.pm_lanes.proofs.laws.open_calls_are_judged.Goals as goal

pub returns-clause-entries : goal.returns-clause-entries
returns-clause-entries _ = closed.entries_are

pub returns-clause-others : goal.returns-clause-others
returns-clause-others _ = closed.others

pub returns-clause-open_call : goal.returns-clause-open_call
returns-clause-open_call _ = closed.judges
