use Rattle.std.proofs.Common.{◌≡◌, None, Ok, Err, arith, rules, subst}
use Rattle.pm_call.specs.Did.{work_refusal}
use Rattle.pm_action.specs.Actions.{JudgedSet}
use Rattle.pm_action.proofs.Asking.{asked_no, asked_nothing, asked_set}
use Rattle.pm_action.proofs.actions.set_inside.Goals as goal

pub returns-in-Some : goal.returns-in-Some
returns-in-Some g c = asked_nothing g.M.LaneMem.at c.args.lane.now c.args.id c.args.off c.args.value c.in-Some.why c.in-Some.ensures

pub do_set-requires-clause-stands : goal.do_set-requires-clause-stands
do_set-requires-clause-stands g c = c.requires (let e : work_refusal c.args.lane.now ≡ None = search rules in e)

pub refuse_set-requires : goal.refuse_set-requires
refuse_set-requires g c = c.requires (let e : work_refusal c.args.lane.now ≡ None = search rules in e)

pub returns-in-Ok : goal.returns-in-Ok
returns-in-Ok g c =
    asked_set g.M.LaneMem.at c.args.lane.now c.args.id c.args.off c.args.value c.do_set.new.lane (omega arith) (let e : None ≡ work_refusal c.args.lane.now = search rules in e)
    (subst (λ n. JudgedSet c.args.off n (Ok tt)) c.len.ensures.value c.in-Ok.ensures) c.do_set.ensures

pub returns-in-Err : goal.returns-in-Err
returns-in-Err g c =
    asked_no g.M.LaneMem.at c.args.lane.now c.args.id c.args.off c.args.value c.refuse_set.new.lane c.in-Err.why (let e : None ≡ work_refusal c.args.lane.now = search rules in e)
    (subst (λ n. JudgedSet c.args.off n (Err c.in-Err.why)) c.len.ensures.value c.in-Err.ensures) c.refuse_set.ensures
