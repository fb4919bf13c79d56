use Rattle.std.proofs.Common.{subst}
use Rattle.std.specs.Bool.{OnTrue}
use Rattle.pm_view.specs.View.{View}
use Rattle.pm_lane_bench.specs.Lanes.{CanReserve, with_chunk}
use Rattle.pm_lane_bench.proofs.CallLanes.{reserved}
use Rattle.pm_lane_bench.proofs.ors.ors.Goals as goal

pub reserve-requires : goal.reserve-requires
reserve-requires g c = (c.requires.view, c.requires.keeps.memory, c.requires.so.reserves)

pub loop-init : goal.loop-init
loop-init g c = reserved g.M.LaneMem.at c.args.lane.now c.reserve.new.mem c.requires
    (subst (λ won. OnTrue won ((v : View) → g.M.LaneMem.at c.args.lane.now.memory v → CanReserve
    v → g.M.LaneMem.at c.reserve.new.mem (with_chunk v))) c.if-not-reserve.false
    c.reserve.ensures)
