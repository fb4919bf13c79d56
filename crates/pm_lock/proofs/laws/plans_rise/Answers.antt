use Rattle.pm_lock.proofs.Planned.{planned_rises}
use Rattle.pm_lock.proofs.laws.plans_rise.Goals as goal

pub returns : goal.returns
returns c line write locks rises = planned_rises line write locks rises
