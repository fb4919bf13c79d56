use Rattle.std.proofs.Common.{arith, ap, length}
use Rattle.pm_lane_bench.proofs.Timed.{applied, ors_ready, persist_ready, store_ready}
use Rattle.pm_lane_bench.proofs.ors.apply_entries.Goals as goal

pub bounds-entries : goal.bounds-entries
bounds-entries g c = let e = ap length c.requires.are.are in omega (arith, e)

pub make_ors-requires : goal.make_ors-requires
make_ors-requires g c = ors_ready (g.M.LaneMem.at c.args.mem.now) c.args.entries.now
    c.requires.are c.requires.ready

pub store-requires : goal.store-requires
store-requires g c = store_ready (g.M.LaneMem.at c.args.mem.now) c.args.entries.now
    c.requires.are c.requires.ready (g.M.LaneMem.at c.make_ors.new.mem) c.in_ok-make_ors.ensures

pub persist_all-requires : goal.persist_all-requires
persist_all-requires g c = persist_ready (g.M.LaneMem.at c.args.mem.now) c.args.entries.now
    c.requires.are c.requires.ready (g.M.LaneMem.at c.make_ors.new.mem) c.in_ok-make_ors.ensures
    (g.M.LaneMem.at c.store.new.mem) c.in_ok-store.ensures

pub returns : goal.returns
returns g c = applied (g.M.LaneMem.at c.args.mem.now) c.args.entries.now c.requires.are
    c.requires.ready (g.M.LaneMem.at c.make_ors.new.mem) c.in_ok-make_ors.ensures
    (g.M.LaneMem.at c.store.new.mem) c.in_ok-store.ensures (g.M.LaneMem.at c.persist_all.new.mem)
    c.in_ok-persist_all.ensures
