use Rattle.pm_crash.proofs.RunClasses as classes
use Rattle.pm_crash.proofs.described.descriptors_have_classes.Goals as goal

pub returns-clause-begins : goal.returns-clause-begins
returns-clause-begins _ = classes.begins

pub returns-clause-goes_on : goal.returns-clause-goes_on
returns-clause-goes_on _ = classes.keeps

pub returns-clause-runs : goal.returns-clause-runs
returns-clause-runs _ = classes.runs
