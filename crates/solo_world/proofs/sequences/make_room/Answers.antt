use Rattle.solo_world.proofs.Settling.{makes_none, room_ready, room_runs}
use Rattle.solo_world.proofs.sequences.make_room.Goals as goal

pub settle-requires : goal.settle-requires
settle-requires g c = room_ready (g.M.LaneMem.at c.args.mem.now) c.undrained.result c.undrained.ensures c.if-undrained.false c.requires

pub returns-then-undrained : goal.returns-then-undrained
returns-then-undrained g c = makes_none (g.M.LaneMem.at c.args.mem.now) c.undrained.result c.undrained.ensures _ c.if-undrained.true

pub returns-else-undrained : goal.returns-else-undrained
returns-else-undrained g c =
    room_runs (g.M.LaneMem.at c.args.mem.now) c.undrained.result c.undrained.ensures (g.M.LaneMem.at c.settle.new.mem) c.settle.result c.if-undrained.false c.settle.ensures
