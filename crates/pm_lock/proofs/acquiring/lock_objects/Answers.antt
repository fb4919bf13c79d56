use Rattle.std.proofs.Common.{Ok, Err, length, ap, ◌∙◌, subst, sym, arith}
use Rattle.pm_view.specs.View.{View}
use Rattle.pm_lock.specs.Acquiring.{CanLookAll, FoundAll}
use Rattle.pm_lock.specs.Holding.{MayTakeAll}
use Rattle.pm_lock.specs.Locking.{AllLocked}
use Rattle.pm_lock.proofs.Acquired.{all_there, looks_next, may_take, one_missing, planned_so, refused_first, stopped_so}
use Rattle.pm_lock.proofs.acquiring.lock_objects.Goals as goal

pub returns-in-Err : goal.returns-in-Err
returns-in-Err g c = refused_first g.M.LaneMem.at c.args.lane.now c.args.new.now c.args.wants.now c.plan_objects.new.plan.items c.in-Err.refusal c.plan_objects.ensures.few c.in-Err.ensures.planned

pub lock_all-requires-clause-room : goal.lock_all-requires-clause-room
lock_all-requires-clause-room g c =
    let p = planned_so g.M.LaneMem.at c.args.lane.now c.args.new.now c.args.wants.now c.plan_objects.new.plan.items c.plan_objects.ensures.few c.in_default.ensures.planned in
    let e = ap length (c.as_slice.ensures.value ∙ p.0) in let few = p.1 in let most = c.plan_objects.ensures.few in
    omega (arith, e, few, most)

pub lock_all-requires-clause-stands : goal.lock_all-requires-clause-stands
lock_all-requires-clause-stands g c =
    let p = planned_so g.M.LaneMem.at c.args.lane.now c.args.new.now c.args.wants.now c.plan_objects.new.plan.items c.plan_objects.ensures.few c.in_default.ensures.planned in
    let s = c.requires in
    (s.0, s.1.memory, subst (MayTakeAll s.0) (sym (c.as_slice.ensures.value ∙ p.0)) (may_take g.M.LaneMem.at c.args.lane.now c.args.new.now c.args.wants.now s.0 s.1))

pub returns-in-Err-lock_all : goal.returns-in-Err-lock_all
returns-in-Err-lock_all g c =
    let p = planned_so g.M.LaneMem.at c.args.lane.now c.args.new.now c.args.wants.now c.plan_objects.new.plan.items c.plan_objects.ensures.few c.in_default.ensures.planned in
    stopped_so g.M.LaneMem.at c.args.lane.now c.args.new.now c.args.wants.now p.2 c.lock_all.new.lane c.in-Err-lock_all.field-0
    (subst (λ ls. AllLocked g.M.LaneMem.at ls c.args.lane.now c.lock_all.new.lane (Err c.in-Err-lock_all.field-0)) (c.as_slice.ensures.value ∙ p.0) c.in-Err-lock_all.ensures)

pub find_all-requires : goal.find_all-requires
find_all-requires g c =
    let p = planned_so g.M.LaneMem.at c.args.lane.now c.args.new.now c.args.wants.now c.plan_objects.new.plan.items c.plan_objects.ensures.few c.in_default.ensures.planned in
    let locked = subst (λ ls. AllLocked g.M.LaneMem.at ls c.args.lane.now c.lock_all.new.lane (Ok c.in_default-lock_all.field-0)) (c.as_slice.ensures.value ∙ p.0) c.in_default-lock_all.ensures in
    subst (λ ls. (u : View) × g.M.LaneMem.at c.lock_all.new.lane.memory u × CanLookAll u c.lock_all.new.lane.shape ls) (sym (c.as_slice-2.ensures.value ∙ p.0))
    (looks_next g.M.LaneMem.at c.args.lane.now c.args.new.now c.args.wants.now p.2 c.lock_all.new.lane locked c.requires)

pub returns-then-find_all : goal.returns-then-find_all
returns-then-find_all g c =
    let p = planned_so g.M.LaneMem.at c.args.lane.now c.args.new.now c.args.wants.now c.plan_objects.new.plan.items c.plan_objects.ensures.few c.in_default.ensures.planned in
    let locked = subst (λ ls. AllLocked g.M.LaneMem.at ls c.args.lane.now c.lock_all.new.lane (Ok c.in_default-lock_all.field-0)) (c.as_slice.ensures.value ∙ p.0) c.in_default-lock_all.ensures in
    all_there g.M.LaneMem.at c.args.lane.now c.args.new.now c.args.wants.now p.2 c.lock_all.new.lane locked c.find_all.new.mem c.find_all.result c.if-find_all.true
    (subst (λ ls. FoundAll g.M.LaneMem.at c.lock_all.new.lane.shape ls c.lock_all.new.lane.memory c.find_all.new.mem c.find_all.result) (c.as_slice-2.ensures.value ∙ p.0) c.find_all.ensures)

pub returns-else-find_all : goal.returns-else-find_all
returns-else-find_all g c =
    let p = planned_so g.M.LaneMem.at c.args.lane.now c.args.new.now c.args.wants.now c.plan_objects.new.plan.items c.plan_objects.ensures.few c.in_default.ensures.planned in
    let locked = subst (λ ls. AllLocked g.M.LaneMem.at ls c.args.lane.now c.lock_all.new.lane (Ok c.in_default-lock_all.field-0)) (c.as_slice.ensures.value ∙ p.0) c.in_default-lock_all.ensures in
    one_missing g.M.LaneMem.at c.args.lane.now c.args.new.now c.args.wants.now p.2 c.lock_all.new.lane locked c.find_all.new.mem c.find_all.result c.if-find_all.false
    (subst (λ ls. FoundAll g.M.LaneMem.at c.lock_all.new.lane.shape ls c.lock_all.new.lane.memory c.find_all.new.mem c.find_all.result) (c.as_slice-2.ensures.value ∙ p.0) c.find_all.ensures)
