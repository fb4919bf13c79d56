use Rattle.std.proofs.Common.{◌-◌, arith}
use Rattle.pm_recover.proofs.PutBack.{lane_more, sound_behind_lane}
use Rattle.pm_recover.proofs.restoring.restore_all.Goals as goal

pub restore_lane-requires : goal.restore_lane-requires
restore_lane-requires c =
    let from = c.loop-lane.lane in
    sound_behind_lane c.args.image.now c.loop-lane.image c.args.lanes (from - 1) from (c.args.lanes - from) (omega arith) c.requires (omega arith) c.loop-lane.invariant

pub loop-lane-preserved : goal.loop-lane-preserved
loop-lane-preserved c =
    let from = c.loop-lane.lane in
    lane_more c.args.image.now c.loop-lane.image c.restore_lane.new.image c.args.lanes (from - 1) from (c.args.lanes - from) (c.args.lanes - (from - 1)) (omega arith) (omega arith) c.requires
    (omega arith) c.loop-lane.invariant c.restore_lane.ensures
