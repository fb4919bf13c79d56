use Rattle.std.proofs.Common.{None}
use Rattle.pm_view.specs.Steps.Step.{Tell}
use Rattle.pm_world.specs.Lent.{operation_of}
use Rattle.pm_call.proofs.LockOps.{locked_wanted, may_refuse, may_tell, wanted_refused}
use Rattle.pm_call.proofs.lock_ops.lock_wanted.Goals as goal

pub tell-requires : goal.tell-requires
tell-requires g c =
    let t = may_tell g.M.LaneMem.at c.args.lane.now (operation_of c.args.operation) c.args.wants.now c.args.level c.take_wanted.new.lane c.in-Ok.field-0 c.requires c.in-Ok.ensures in
    g.met.M.LawfulMem.meets c.take_wanted.new.lane.memory t.0 (Tell (operation_of c.args.operation) None) t.1 t.2

pub refuse-requires : goal.refuse-requires
refuse-requires g c = λ goes. may_refuse g.M.LaneMem.at c.args.lane.now (operation_of c.args.operation) c.args.wants.now c.args.level c.take_wanted.new.lane c.in-Err.why c.requires c.in-Err.ensures

pub returns-in-Ok : goal.returns-in-Ok
returns-in-Ok g c =
    locked_wanted g.M.LaneMem.at c.args.lane.now (operation_of c.args.operation) c.args.wants.now c.args.level c.take_wanted.new.lane g.M.LaneMem.may g.met.M.LawfulMem.grants c.tell.new.self c.in-Ok.field-0 tt c.requires c.in-Ok.ensures
    c.tell.ensures

pub returns-in-Err : goal.returns-in-Err
returns-in-Err g c = wanted_refused g.M.LaneMem.at c.args.lane.now (operation_of c.args.operation) c.args.wants.now c.args.level c.take_wanted.new.lane c.refuse.new.lane c.in-Err.why c.refuse.result c.requires c.in-Err.ensures c.refuse.ensures
