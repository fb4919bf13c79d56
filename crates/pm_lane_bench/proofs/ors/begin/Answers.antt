use Rattle.std.proofs.Common.{arith}
use Rattle.pm_view.specs.Steps.Step.{NumberSeen}
use Rattle.pm_lane_bench.proofs.Calls.{may_see}
use Rattle.pm_lane_bench.proofs.CallLanes.{listed, unlisted}
use Rattle.pm_lane_bench.proofs.ors.begin.Goals as goal

pub number_seen-number-requires : goal.number_seen-number-requires
number_seen-number-requires g c n = g.met.M.LawfulMem.meets c.args.lane.now.memory
    c.requires.view (NumberSeen n) c.requires.keeps.memory (may_see c.requires.view c.requires.so
    n)

pub list-requires : goal.list-requires
list-requires g c = unlisted g.M.LaneMem.at c.args.lane.now c.requires

pub returns : goal.returns
returns g c =
    let h = c.requires in let n = c.number_seen-number.result in
    let few = c.if-number-ge-MAX_GENERATION.false in let below =
    c.if-lane-ge-MAX_GENERATION.false in
    listed g.M.LaneMem.at c.args.lane.now h c.number_seen-number.new.self n
    (c.number_seen-number.ensures h.view h.keeps.memory (g.met.M.LawfulMem.grants h.view
    (NumberSeen n) (may_see h.view h.so n))).0
    (omega (arith, few)) (omega (arith, below)) c.list.new.lane c.in_ok-list.ensures
