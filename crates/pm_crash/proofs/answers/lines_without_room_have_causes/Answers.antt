use Rattle.pm_crash.proofs.FullRuns as full
use Rattle.pm_crash.proofs.OtherLines as lines
use Rattle.pm_crash.proofs.answers.lines_without_room_have_causes.Goals as goal

pub returns-clause-none : goal.returns-clause-none
returns-clause-none _ = lines.none_got

pub returns-clause-sums : goal.returns-clause-sums
returns-clause-sums _ = lines.sums

pub returns-clause-rest : goal.returns-clause-rest
returns-clause-rest _ = lines.the_rest

pub returns-clause-causes : goal.returns-clause-causes
returns-clause-causes _ = lines.causes

pub returns-clause-full_runs : goal.returns-clause-full_runs
returns-clause-full_runs _ = full.full_runs

pub returns-clause-images : goal.returns-clause-images
returns-clause-images _ = full.images
