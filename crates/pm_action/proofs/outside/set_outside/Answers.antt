use Rattle.std.proofs.Common.{Ok, Err, arith, rules, subst}
use Rattle.pm_objects.specs.declared.calls.Operation.TheVariants.{SetValue}
use Rattle.pm_action.specs.Actions.{JudgedSet}
use Rattle.pm_action.proofs.OutsideLanes.{asked_refused, asked_set, refuse_opened, set_opened, unopened}
use Rattle.pm_action.proofs.outside.set_outside.Goals as goal

pub returns-in_err-open_call : goal.returns-in_err-open_call
returns-in_err-open_call g c = unopened g.M.LaneMem.at c.args.lane.now (SetValue c.args.id c.args.off c.args.value) c.open_call.new.lane c.in_err-open_call.field-0.0 c.from_residual.result (search rules) c.in_err-open_call.ensures

pub do_set-requires-clause-opened : goal.do_set-requires-clause-opened
do_set-requires-clause-opened g c =
    set_opened g.M.LaneMem.at c.args.lane.now c.open_call.new.lane c.open_call.new.lane c.args.id c.args.off c.args.value c.requires c.in_ok-open_call.ensures (omega arith) (subst (λ n. JudgedSet c.args.off n (Ok tt)) c.len.ensures.value c.in-Ok.ensures)

pub refuse_set-requires : goal.refuse_set-requires
refuse_set-requires g c =
    refuse_opened g.M.LaneMem.at c.args.lane.now c.open_call.new.lane c.open_call.new.lane c.args.id c.args.off c.args.value c.in-Err.why c.requires c.in_ok-open_call.ensures (omega arith) (subst (λ n. JudgedSet c.args.off n (Err c.in-Err.why)) c.len.ensures.value c.in-Err.ensures)

pub returns-in-Ok : goal.returns-in-Ok
returns-in-Ok g c =
    asked_set g.M.LaneMem.at c.args.lane.now c.open_call.new.lane c.do_set.new.lane c.args.id c.args.off c.args.value c.in_ok-open_call.ensures (omega arith) (subst (λ n. JudgedSet c.args.off n (Ok tt)) c.len.ensures.value c.in-Ok.ensures) c.do_set.ensures

pub returns-in-Err : goal.returns-in-Err
returns-in-Err g c =
    asked_refused g.M.LaneMem.at c.args.lane.now c.open_call.new.lane c.refuse_set.new.lane c.args.id c.args.off c.args.value c.in-Err.why c.in_ok-open_call.ensures (omega arith) (subst (λ n. JudgedSet c.args.off n (Err c.in-Err.why)) c.len.ensures.value c.in-Err.ensures) c.refuse_set.ensures
