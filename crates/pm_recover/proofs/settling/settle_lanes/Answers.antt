use Rattle.std.proofs.Common.{arith}
use Rattle.pm_recover.proofs.LogsEnded.{settled_more}
use Rattle.pm_recover.proofs.settling.settle_lanes.Goals as goal

pub loop-lane-preserved : goal.loop-lane-preserved
loop-lane-preserved c =
    settled_more c.args.image.now c.loop-lane.image c.settle_lane.new.image c.args.lanes c.loop-lane.lane c.requires (omega arith) c.loop-lane.invariant
    c.settle_lane.ensures.as_long c.settle_lane.ensures.generation c.settle_lane.ensures.seal c.settle_lane.ensures.others
