use Rattle.pm_lock.proofs.Sights.{seen_fits}
use Rattle.pm_lock.proofs.laws.sights_fit.Goals as goal

pub returns : goal.returns
returns c v w x i = seen_fits v w x i
