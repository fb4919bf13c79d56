use Rattle.pm_world.proofs.RunsKept.{runs_keep}
use Rattle.pm_world.proofs.laws.runs_keep_worlds.Goals as goal

pub returns : goal.returns
returns c = runs_keep
