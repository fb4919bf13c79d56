use Rattle.pm_lock.proofs.LookLaw.{looks_tell}
use Rattle.pm_lock.proofs.laws.looks_tell.Goals as goal

pub returns : goal.returns
returns c v sh line d b can fits also = looks_tell v sh line d b can fits also
