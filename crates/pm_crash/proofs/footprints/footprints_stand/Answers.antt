use Rattle.pm_crash.proofs.Onward as onward
use Rattle.pm_crash.proofs.footprints.footprints_stand.Goals as goal

pub returns-clause-begins : goal.returns-clause-begins
returns-clause-begins _ = onward.begins

pub returns-clause-goes_on : goal.returns-clause-goes_on
returns-clause-goes_on _ = onward.goes_on

pub returns-clause-runs : goal.returns-clause-runs
returns-clause-runs _ = onward.runs

pub returns-clause-roots : goal.returns-clause-roots
returns-clause-roots _ = λ o id views g fp keep d n l. (fp.precede keep d n l).roots
