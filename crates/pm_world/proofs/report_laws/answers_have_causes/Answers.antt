use Rattle.pm_world.proofs.CausesKept as causes
use Rattle.pm_world.proofs.report_laws.answers_have_causes.Goals as goal

pub returns-clause-begin : goal.returns-clause-begin
returns-clause-begin c = causes.begin

pub returns-clause-goes_on : goal.returns-clause-goes_on
returns-clause-goes_on c = causes.goes_on

pub returns-clause-runs : goal.returns-clause-runs
returns-clause-runs c = causes.runs
