use Rattle.pm_lock.proofs.ModelPlans.{plans_as}
use Rattle.pm_lock.proofs.laws.plans_are_the_models.Goals as goal

pub returns : goal.returns
returns c tx sh pool locks new wants has = plans_as tx sh pool locks new has wants
