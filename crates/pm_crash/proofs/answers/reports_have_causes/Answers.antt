use Rattle.pm_crash.proofs.FullZones as zones
use Rattle.pm_crash.proofs.Missing as missing
use Rattle.pm_crash.proofs.answers.reports_have_causes.Goals as goal

pub returns-clause-classes : goal.returns-clause-classes
returns-clause-classes _ = missing.classes_hold

pub returns-clause-gone : goal.returns-clause-gone
returns-clause-gone _ = missing.gone

pub returns-clause-no_block : goal.returns-clause-no_block
returns-clause-no_block _ = missing.no_block

pub returns-clause-images : goal.returns-clause-images
returns-clause-images _ = missing.images

pub returns-clause-zones : goal.returns-clause-zones
returns-clause-zones _ = zones.full_is_got

pub returns-clause-causes : goal.returns-clause-causes
returns-clause-causes _ = missing.causes

pub returns-clause-runs : goal.returns-clause-runs
returns-clause-runs _ = missing.runs
