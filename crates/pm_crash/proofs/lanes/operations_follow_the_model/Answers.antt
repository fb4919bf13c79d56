use Rattle.pm_crash.proofs.Rollbacks.{sim_rolls_back}
use Rattle.pm_crash.proofs.SimAllocs.{sim_allocates, sim_frees, sim_publishes, sim_reserves}
use Rattle.pm_crash.proofs.SimCommits.{sim_commits}
use Rattle.pm_crash.proofs.SimOps.{sim_aborts, sim_extends, sim_refuses}
use Rattle.pm_crash.proofs.SimWrites.{sim_writes}
use Rattle.pm_crash.proofs.lanes.operations_follow_the_model.Goals as goal

pub returns-clause-extends : goal.returns-clause-extends
returns-clause-extends c = sim_extends

pub returns-clause-refuses : goal.returns-clause-refuses
returns-clause-refuses c = sim_refuses

pub returns-clause-aborts : goal.returns-clause-aborts
returns-clause-aborts c = sim_aborts

pub returns-clause-rolls_back : goal.returns-clause-rolls_back
returns-clause-rolls_back c = sim_rolls_back

pub returns-clause-writes : goal.returns-clause-writes
returns-clause-writes c = sim_writes

pub returns-clause-frees : goal.returns-clause-frees
returns-clause-frees c = sim_frees

pub returns-clause-allocates : goal.returns-clause-allocates
returns-clause-allocates c = sim_allocates

pub returns-clause-reserves : goal.returns-clause-reserves
returns-clause-reserves c = sim_reserves

pub returns-clause-publishes : goal.returns-clause-publishes
returns-clause-publishes c = sim_publishes

pub returns-clause-commits : goal.returns-clause-commits
returns-clause-commits c = sim_commits
