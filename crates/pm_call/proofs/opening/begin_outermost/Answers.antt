use Rattle.std.proofs.Common.{None, rules}
use Rattle.pm_objects.specs.declared.calls.Operation.TheVariants.{Begin}
use Rattle.pm_view.specs.Steps.Step.{Tell}
use Rattle.pm_call.proofs.Begins.{begun_ok, begun_refused, begun_spent, begun_stopped, may_lock, may_refuse, may_tell_begin}
use Rattle.pm_call.proofs.opening.begin_outermost.Goals as goal

pub returns-in_err-open_call : goal.returns-in_err-open_call
returns-in_err-open_call g c = begun_spent g.M.LaneMem.at c.args.lane.now c.open_call.new.lane c.args.wants.now c.in_err-open_call.field-0.0 c.from_residual.result (search rules) c.in_err-open_call.ensures

pub lock_objects-requires : goal.lock_objects-requires
lock_objects-requires g c = may_lock g.M.LaneMem.at c.args.lane.now c.args.wants.now c.open_call.new.lane c.in_ok-open_call.ensures c.requires

pub tell-requires : goal.tell-requires
tell-requires g c =
    let t = may_tell_begin g.M.LaneMem.at c.args.lane.now c.args.wants.now c.open_call.new.lane c.in_ok-open_call.ensures c.lock_objects.new.lane c.requires c.in-Ok.ensures in
    g.met.M.LawfulMem.meets c.lock_objects.new.lane.memory t.0 (Tell (Begin c.args.wants.now) None) t.1 t.2

pub refuse_begin-requires : goal.refuse_begin-requires
refuse_begin-requires g c = may_refuse g.M.LaneMem.at c.args.lane.now c.args.wants.now c.open_call.new.lane c.in_ok-open_call.ensures c.lock_objects.new.lane c.requires c.in-Err.why (search rules) c.in-Err.ensures

pub returns-in-Ok : goal.returns-in-Ok
returns-in-Ok g c =
    begun_ok g.M.LaneMem.at c.args.lane.now c.args.wants.now c.open_call.new.lane c.in_ok-open_call.ensures c.lock_objects.new.lane g.M.LaneMem.may g.met.M.LawfulMem.grants c.tell.new.self c.in-Ok.ensures c.tell.ensures

pub returns-in-Err-Stopped : goal.returns-in-Err-Stopped
returns-in-Err-Stopped g c =
    begun_stopped g.M.LaneMem.at c.args.lane.now c.args.wants.now c.open_call.new.lane c.in_ok-open_call.ensures c.lock_objects.new.lane c.stop.new.lane c.in-Err-Stopped.field-0 c.stop.result (search rules) c.in-Err-Stopped.ensures c.stop.ensures.answer c.stop.ensures.lane

pub returns-in-Err : goal.returns-in-Err
returns-in-Err g c =
    begun_refused g.M.LaneMem.at c.args.lane.now c.args.wants.now c.open_call.new.lane c.in_ok-open_call.ensures c.lock_objects.new.lane c.refuse_begin.new.lane c.refuse_begin.result c.in-Err.why (search rules) c.in-Err.ensures c.refuse_begin.ensures.made c.refuse_begin.ensures.fields
