use Rattle.std.proofs.Common.{◌+◌, sym, ◌∙◌, arith, length}
use Rattle.pm_image.specs.Logs.{records}
use Rattle.pm_info.proofs.Sums.{sum_more}
use Rattle.pm_info.proofs.counts.record_count.Goals as goal

pub loop-lane-preserved : goal.loop-lane-preserved
loop-lane-preserved c =
    let low = c.loop-lane.invariant.1 in
    let few = c.lane_records-count.ensures.few in
    ((λ i. c.loop-lane.invariant.0 i + c.lane_records-count.ensures.value i) ∙ sym (sum_more (λ lane. length (records c.args.image.now lane)) c.loop-lane.lane), omega (arith, low, few))
