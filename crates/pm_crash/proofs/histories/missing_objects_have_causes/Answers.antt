use Rattle.pm_crash.proofs.KnownClasses as classes
use Rattle.pm_crash.proofs.NoObjects as objects
use Rattle.pm_crash.proofs.histories.missing_objects_have_causes.Goals as goal

pub returns-clause-causes : goal.returns-clause-causes
returns-clause-causes _ = objects.have_causes

pub returns-clause-classes : goal.returns-clause-classes
returns-clause-classes _ = classes.runs
