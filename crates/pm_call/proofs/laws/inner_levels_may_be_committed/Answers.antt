use Rattle.pm_call.proofs.InnerLevels.{inner_levels_may_be_committed}
use Rattle.pm_call.proofs.laws.inner_levels_may_be_committed.Goals as goal

pub returns : goal.returns
returns c = inner_levels_may_be_committed
