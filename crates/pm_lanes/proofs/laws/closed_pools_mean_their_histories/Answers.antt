use Rattle.pm_lanes.proofs.Closed as closed
use Rattle.pm_lanes.proofs.laws.closed_pools_mean_their_histories.Goals as goal

pub returns-clause-means : goal.returns-clause-means
returns-clause-means _ = closed.means

pub returns-clause-answered : goal.returns-clause-answered
returns-clause-answered _ = closed.answered

pub returns-clause-kept : goal.returns-clause-kept
returns-clause-kept _ = closed.kept

pub returns-clause-replays : goal.returns-clause-replays
returns-clause-replays _ = closed.replays

pub returns-clause-facts : goal.returns-clause-facts
returns-clause-facts _ = closed.have_facts
