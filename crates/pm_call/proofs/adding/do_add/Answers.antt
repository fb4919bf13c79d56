use Rattle.std.proofs.Common.{arith, refl, None}
use Rattle.pm_objects.specs.declared.calls.Operation.TheVariants.{AddRange}
use Rattle.pm_view.specs.Steps.Step.{Tell}
use Rattle.pm_call.proofs.AddedLanes.{acted_err, acted_ok, low, may_snapshot, may_tell}
use Rattle.pm_call.proofs.adding.do_add.Goals as goal

pub overflow_add-id : goal.overflow_add-id
overflow_add-id g c = let l = low g.M.LaneMem.at c.args.lane.now c.args.id c.args.off c.args.len c.requires in omega (arith, l)

pub snapshot-requires-clause-range : goal.snapshot-requires-clause-range
snapshot-requires-clause-range g c = low g.M.LaneMem.at c.args.lane.now c.args.id c.args.off c.args.len c.requires

pub snapshot-requires-clause-stands : goal.snapshot-requires-clause-stands
snapshot-requires-clause-stands g c = may_snapshot g.M.LaneMem.at c.args.lane.now c.args.id c.args.off c.args.len c.requires

pub tell-requires : goal.tell-requires
tell-requires g c =
    let t = may_tell g.M.LaneMem.at c.args.lane.now c.args.id c.args.off c.args.len c.snapshot.new.lane c.requires c.in-Ok.count c.in-Ok.ensures in
    g.met.M.LawfulMem.meets c.snapshot.new.lane.memory t.0 (Tell (AddRange c.args.id c.args.off c.args.len) None) t.1 t.2

pub returns-in-Ok : goal.returns-in-Ok
returns-in-Ok g c =
    acted_ok g.M.LaneMem.at c.args.lane.now c.args.id c.args.off c.args.len c.snapshot.new.lane g.M.LaneMem.may g.met.M.LawfulMem.grants c.in-Ok.count c.in-Ok.ensures
    (record c.snapshot.new.lane { memory = c.tell.new.self }) c.tell.ensures refl

pub returns-in-Err : goal.returns-in-Err
returns-in-Err g c = acted_err g.M.LaneMem.at c.args.lane.now c.args.id c.args.off c.args.len c.snapshot.new.lane c.in-Err.why c.in-Err.ensures
