use Rattle.std.proofs.Common.{rules}
use Rattle.pm_world.specs.Lent.{operation_of}
use Rattle.pm_call.proofs.RollbackLanes.{refuses_cut, refuses_ok, refuses_stop}
use Rattle.pm_call.proofs.rollback.refuse.Goals as goal

pub returns-then-eq : goal.returns-then-eq
returns-then-eq g c = refuses_stop g.M.LaneMem.at c.args.lane.now c.stop.new.lane (operation_of c.args.operation) c.args.why c.stop.result (search rules) c.stop.ensures.answer c.stop.ensures.lane

pub give_up-requires : goal.give_up-requires
give_up-requires g c = c.requires (search rules)

pub returns-in-Ok : goal.returns-in-Ok
returns-in-Ok g c = refuses_ok g.M.LaneMem.at c.args.lane.now (operation_of c.args.operation) c.args.why c.give_up.new.lane (search rules) c.in-Ok.ensures

pub returns : goal.returns
returns g c = refuses_cut g.M.LaneMem.at c.args.lane.now (operation_of c.args.operation) c.args.why c.give_up.new.lane c.stop-in-Err.new.lane c.stop-in-Err.result c.in-Err.field-0 (search rules) c.in-Err.ensures c.stop-in-Err.ensures.answer c.stop-in-Err.ensures.lane
