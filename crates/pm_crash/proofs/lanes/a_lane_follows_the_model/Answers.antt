use Rattle.pm_crash.proofs.Composing.{growths_compose}
use Rattle.pm_crash.proofs.Simulation.{sim_begins, sim_goes_on, sim_stays}
use Rattle.pm_crash.proofs.Telling.{sim_is_kept, tells_grow}
use Rattle.pm_crash.proofs.lanes.a_lane_follows_the_model.Goals as goal

pub returns-clause-begins : goal.returns-clause-begins
returns-clause-begins c = sim_begins

pub returns-clause-stays : goal.returns-clause-stays
returns-clause-stays c = sim_stays

pub returns-clause-goes_on : goal.returns-clause-goes_on
returns-clause-goes_on c = sim_goes_on

pub returns-clause-tells : goal.returns-clause-tells
returns-clause-tells c = tells_grow

pub returns-clause-kept : goal.returns-clause-kept
returns-clause-kept c = sim_is_kept

pub returns-clause-composes : goal.returns-clause-composes
returns-clause-composes c = growths_compose
