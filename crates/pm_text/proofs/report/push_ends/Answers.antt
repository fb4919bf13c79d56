use Rattle.std.proofs.Common.{arith}
use Rattle.pm_text.proofs.Ends.{end_more}
use Rattle.pm_text.proofs.report.push_ends.Goals as goal

pub loop-lane-preserved : goal.loop-lane-preserved
loop-lane-preserved c =
    end_more c.args.out.now.items c.loop-lane.out.items _ _ _ c.loop-lane.lane c.args.ends.now _ (omega arith) c.loop-lane.invariant (c.in_ok-extend_from_slice.ensures.items) c.in_ok-push_decimal.ensures c.in_ok-push_end.ensures
