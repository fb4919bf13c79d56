use Rattle.pm_objects.specs.declared.calls.Operation.TheVariants.{Increment}
use Rattle.pm_call.specs.Incrementing.{HasSum, MayIncrement}
use Rattle.pm_call.specs.Plans.{increments}
use Rattle.pm_call.proofs.Calls.{checked_so, tried_err, tried_then}
use Rattle.pm_tx.proofs.increments.try_increment.Goals as goal

pub do_increment-requires : goal.do_increment-requires
do_increment-requires g c =
    checked_so g.M.LaneMem.at c.args.lane.now c.check_increment.new.lane
    c.check_increment.new.lane (Increment c.args.id c.args.off c.args.by)
    (λ s (done : Unit {0}). MayIncrement s c.args.id c.args.off) tt c.requires c.in-Ok.ensures

pub returns-in-Ok : goal.returns-in-Ok
returns-in-Ok g c =
    tried_then g.M.LaneMem.at c.args.lane.now c.check_increment.new.lane c.do_increment.new.lane
    (Increment c.args.id c.args.off c.args.by)
    (λ s (done : Unit {0}). MayIncrement s c.args.id c.args.off)
    (λ v. increments c.args.id c.args.off c.args.by) (HasSum c.args.id c.args.off c.args.by) tt
    c.do_increment.result c.in-Ok.ensures c.do_increment.ensures

pub returns-in-Err : goal.returns-in-Err
returns-in-Err g c =
    tried_err g.M.LaneMem.at c.args.lane.now c.check_increment.new.lane
    c.check_increment.new.lane (Increment c.args.id c.args.off c.args.by) (Unit {0})
    (λ s done. MayIncrement s c.args.id c.args.off)
    (λ v. increments c.args.id c.args.off c.args.by) (HasSum c.args.id c.args.off c.args.by)
    c.in-Err.why c.in-Err.ensures
