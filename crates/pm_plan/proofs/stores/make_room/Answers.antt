use Rattle.pm_plan.proofs.Persisting.{makes_none, room_ready, room_runs}
use Rattle.pm_plan.proofs.stores.make_room.Goals as goal

pub persist_all-requires : goal.persist_all-requires
persist_all-requires g c = room_ready (g.M.LaneMem.at c.args.mem.now) c.undrained.result c.undrained.ensures c.if-undrained.false c.requires

pub returns-then-undrained : goal.returns-then-undrained
returns-then-undrained g c = makes_none (g.M.LaneMem.at c.args.mem.now) c.undrained.result c.undrained.ensures _ c.if-undrained.true

pub returns-else-undrained : goal.returns-else-undrained
returns-else-undrained g c =
    room_runs (g.M.LaneMem.at c.args.mem.now) c.undrained.result c.undrained.ensures (g.M.LaneMem.at c.persist_all.new.mem) c.persist_all.result c.if-undrained.false c.persist_all.ensures
