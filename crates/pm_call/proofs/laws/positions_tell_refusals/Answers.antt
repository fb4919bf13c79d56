use Rattle.pm_call.proofs.Positions.{aborted_lanes_may_end, committed_lanes_may_end, resting_lanes_may_begin, stopped_lanes_are_refused, working_lanes_may_work}
use Rattle.pm_call.proofs.laws.positions_tell_refusals.Goals as goal

pub returns-clause-working : goal.returns-clause-working
returns-clause-working g c = working_lanes_may_work g.M.LaneMem.at

pub returns-clause-resting : goal.returns-clause-resting
returns-clause-resting g c = resting_lanes_may_begin g.M.LaneMem.at

pub returns-clause-committed : goal.returns-clause-committed
returns-clause-committed g c = committed_lanes_may_end g.M.LaneMem.at

pub returns-clause-aborted : goal.returns-clause-aborted
returns-clause-aborted g c = aborted_lanes_may_end g.M.LaneMem.at

pub returns-clause-stopped : goal.returns-clause-stopped
returns-clause-stopped g c = stopped_lanes_are_refused g.M.LaneMem.at
