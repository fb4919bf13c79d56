use Rattle.pm_lane_bench.proofs.CallLanes.{list_more}
use Rattle.pm_lane_bench.proofs.ors.list.Goals as goal

pub loop-preserved : goal.loop-preserved
loop-preserved g c = list_more c.args.lane.now c.loop.lane c.put.new.lane c.loop.counter
    c.loop.invariant c.in_ok-put.ensures
