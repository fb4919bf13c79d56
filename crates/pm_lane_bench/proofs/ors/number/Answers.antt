use Rattle.pm_view.specs.Steps.Step.{Draw, NumberSeen}
use Rattle.pm_view.specs.Views.{after}
use Rattle.pm_lane_bench.proofs.CallLanes.{draw_allowed, drawn}
use Rattle.pm_lane_bench.proofs.ors.number.Goals as goal

pub log-requires : goal.log-requires
log-requires g c = (after c.requires.before (NumberSeen c.requires.number), c.requires.may)

pub draw-requires : goal.draw-requires
draw-requires g c m =
    let a = draw_allowed g.M.LaneMem.at c.args.lane.now c.requires c.log.new.lane
    c.in_ok-log.ensures m in
    g.met.M.LawfulMem.meets c.log.new.lane.memory a.0 (Draw m) a.1 a.2

pub returns : goal.returns
returns g c = drawn g.M.LaneMem.at c.args.lane.now c.requires c.log.new.lane c.in_ok-log.ensures
    c.draw.result c.draw.new.self
    (λ v there may. (c.draw.ensures v there (g.met.M.LawfulMem.grants v (Draw c.draw.result)
    may)).0)
