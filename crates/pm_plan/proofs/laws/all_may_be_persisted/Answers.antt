use Rattle.pm_plan.proofs.Going.{persists_all_lawful}
use Rattle.pm_plan.proofs.laws.all_may_be_persisted.Goals as goal

pub returns : goal.returns
returns c v = persists_all_lawful v
