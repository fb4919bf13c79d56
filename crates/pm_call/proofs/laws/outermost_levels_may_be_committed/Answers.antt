use Rattle.pm_call.proofs.LoggedCommits.{outermost_levels_may_be_committed}
use Rattle.pm_call.proofs.laws.outermost_levels_may_be_committed.Goals as goal

pub returns : goal.returns
returns c = outermost_levels_may_be_committed
