use Rattle.std.proofs.Common.{true, subst}
use Rattle.pm_memory.specs.Runs.{Made}
use Rattle.pm_view.specs.Steps.Step.{Occupy, ZoneTry}
use Rattle.pm_view.specs.Views.{after}
use Rattle.pm_view.specs.declared.occ.Occ.TheVariants.{Zone}
use Rattle.pm_lane_bench.proofs.Fillings.{got_both, may_occupy, may_try}
use Rattle.pm_lane_bench.proofs.lane.reserve.Goals as goal

pub zone_try-requires : goal.zone_try-requires
zone_try-requires g c won = let r = c.requires in g.met.M.LawfulMem.meets c.args.mem.now r.0
    (ZoneTry 0 won) r.1 (may_try r.0 r.2 won)

pub occupy-requires : goal.occupy-requires
occupy-requires g c won =
    let r = c.requires in
    let made = subst (λ got. Made g.M.LaneMem.may (g.M.LaneMem.at c.args.mem.now) (g.M.LaneMem.at
    c.zone_try.new.self) (ZoneTry 0 got)) c.if-zone_try.true c.zone_try.ensures in
    g.met.M.LawfulMem.meets c.zone_try.new.self (after r.0 (ZoneTry 0 true)) (Occupy (Zone 0) 1
    won)
    (made r.0 r.1 (g.met.M.LawfulMem.grants r.0 (ZoneTry 0 true) (may_try r.0 r.2 true))).0
    (may_occupy r.0 r.2 won)

pub returns-then-zone_try : goal.returns-then-zone_try
returns-then-zone_try g c = got_both g.M.LaneMem.may (g.M.LaneMem.at c.args.mem.now)
    (g.M.LaneMem.at c.zone_try.new.self) (g.M.LaneMem.at c.occupy.new.self)
    g.met.M.LawfulMem.grants
    (subst (λ got. Made g.M.LaneMem.may (g.M.LaneMem.at c.args.mem.now) (g.M.LaneMem.at
    c.zone_try.new.self) (ZoneTry 0 got)) c.if-zone_try.true c.zone_try.ensures)
    c.occupy.result c.occupy.ensures
