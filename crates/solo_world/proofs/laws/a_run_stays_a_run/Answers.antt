use Rattle.solo_world.proofs.Runs.{keeps_runs}
use Rattle.solo_world.proofs.laws.a_run_stays_a_run.Goals as goal

pub returns : goal.returns
returns c = keeps_runs
