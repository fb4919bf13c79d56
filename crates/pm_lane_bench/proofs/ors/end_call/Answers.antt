use Rattle.std.proofs.Common.{arith}
use Rattle.pm_lane_bench.proofs.CallLanes.{are_ors, ended, generation_low, stands}
use Rattle.pm_lane_bench.proofs.ors.end_call.Goals as goal

pub perform-requires-clause-may : goal.perform-requires-clause-may
perform-requires-clause-may g c = stands g.M.LaneMem.at c.args.lane.now c.requires

pub perform-requires-clause-are : goal.perform-requires-clause-are
perform-requires-clause-are g c = are_ors g.M.LaneMem.at c.args.lane.now c.requires

pub overflow_add-lane : goal.overflow_add-lane
overflow_add-lane g c = let low = generation_low g.M.LaneMem.at c.args.lane.now c.requires
    c.perform.new.lane c.in_ok-took.ensures in omega (arith, low)

pub returns : goal.returns
returns g c = ended g.M.LaneMem.at c.args.lane.now c.requires c.perform.new.lane
    c.in_ok-took.ensures
