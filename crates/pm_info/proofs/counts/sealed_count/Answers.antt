use Rattle.pm_image.specs.Logs.{is_sealed}
use Rattle.pm_info.proofs.Sums.{counted_more}
use Rattle.pm_info.proofs.counts.sealed_count.Goals as goal

pub loop-lane-preserved : goal.loop-lane-preserved
loop-lane-preserved c =
    counted_more (is_sealed c.args.image.now) c.loop-lane.lane c.loop-lane.count c.from-count.result c.is_sealed.result c.loop-lane.invariant.0 c.loop-lane.invariant.1 c.from-count.ensures c.is_sealed.ensures
