use Rattle.std.proofs.Common.{length, rules, ap, ◌∙◌, subst, sym, arith}
use Rattle.pm_view.specs.View.{View}
use Rattle.pm_lock.specs.Acquiring.{CanLookAll, FoundAll}
use Rattle.pm_lock.specs.Holding.{MayTakeAll}
use Rattle.pm_lock.specs.Locking.{AllTried}
use Rattle.pm_lock.proofs.Acquired.{all_got, busy_so, looks_then, may_take, none_got, planned_so, refused_here}
use Rattle.pm_lock.proofs.acquiring.try_objects.Goals as goal

pub returns-in-Err : goal.returns-in-Err
returns-in-Err g c = refused_here g.M.LaneMem.at c.args.lane.now c.args.new.now c.args.wants.now c.plan_objects.new.plan.items c.in-Err.refusal c.plan_objects.ensures.few c.in-Err.ensures.planned

pub try_all-requires-clause-room : goal.try_all-requires-clause-room
try_all-requires-clause-room g c =
    let p = planned_so g.M.LaneMem.at c.args.lane.now c.args.new.now c.args.wants.now c.plan_objects.new.plan.items c.plan_objects.ensures.few c.in_default.ensures.planned in
    let e = ap length (c.as_slice.ensures.value ∙ p.0) in let few = p.1 in let most = c.plan_objects.ensures.few in
    omega (arith, e, few, most)

pub try_all-requires-clause-stands : goal.try_all-requires-clause-stands
try_all-requires-clause-stands g c =
    let p = planned_so g.M.LaneMem.at c.args.lane.now c.args.new.now c.args.wants.now c.plan_objects.new.plan.items c.plan_objects.ensures.few c.in_default.ensures.planned in
    let s = c.requires in
    (s.0, s.1.memory, subst (MayTakeAll s.0) (sym (c.as_slice.ensures.value ∙ p.0)) (may_take g.M.LaneMem.at c.args.lane.now c.args.new.now c.args.wants.now s.0 s.1))

pub returns-then-not-try_all : goal.returns-then-not-try_all
returns-then-not-try_all g c =
    let p = planned_so g.M.LaneMem.at c.args.lane.now c.args.new.now c.args.wants.now c.plan_objects.new.plan.items c.plan_objects.ensures.few c.in_default.ensures.planned in
    busy_so g.M.LaneMem.at c.args.lane.now c.args.new.now c.args.wants.now p.2 c.try_all.new.lane c.try_all.result (search rules) (subst (λ ls. AllTried g.M.LaneMem.at ls c.args.lane.now c.try_all.new.lane c.try_all.result) (c.as_slice.ensures.value ∙ p.0) c.try_all.ensures)

pub find_all-requires : goal.find_all-requires
find_all-requires g c =
    let p = planned_so g.M.LaneMem.at c.args.lane.now c.args.new.now c.args.wants.now c.plan_objects.new.plan.items c.plan_objects.ensures.few c.in_default.ensures.planned in
    let tried = subst (λ ls. AllTried g.M.LaneMem.at ls c.args.lane.now c.try_all.new.lane c.try_all.result) (c.as_slice.ensures.value ∙ p.0) c.try_all.ensures in
    subst (λ ls. (u : View) × g.M.LaneMem.at c.try_all.new.lane.memory u × CanLookAll u c.try_all.new.lane.shape ls) (sym (c.as_slice-2.ensures.value ∙ p.0))
    (looks_then g.M.LaneMem.at c.args.lane.now c.args.new.now c.args.wants.now p.2 c.try_all.new.lane c.try_all.result (search rules) tried c.requires)

pub returns-then-find_all : goal.returns-then-find_all
returns-then-find_all g c =
    let p = planned_so g.M.LaneMem.at c.args.lane.now c.args.new.now c.args.wants.now c.plan_objects.new.plan.items c.plan_objects.ensures.few c.in_default.ensures.planned in
    let tried = subst (λ ls. AllTried g.M.LaneMem.at ls c.args.lane.now c.try_all.new.lane c.try_all.result) (c.as_slice.ensures.value ∙ p.0) c.try_all.ensures in
    all_got g.M.LaneMem.at c.args.lane.now c.args.new.now c.args.wants.now p.2 c.try_all.new.lane c.try_all.result (search rules) tried c.find_all.new.mem c.find_all.result c.if-find_all.true
    (subst (λ ls. FoundAll g.M.LaneMem.at c.try_all.new.lane.shape ls c.try_all.new.lane.memory c.find_all.new.mem c.find_all.result) (c.as_slice-2.ensures.value ∙ p.0) c.find_all.ensures)

pub returns-else-find_all : goal.returns-else-find_all
returns-else-find_all g c =
    let p = planned_so g.M.LaneMem.at c.args.lane.now c.args.new.now c.args.wants.now c.plan_objects.new.plan.items c.plan_objects.ensures.few c.in_default.ensures.planned in
    let tried = subst (λ ls. AllTried g.M.LaneMem.at ls c.args.lane.now c.try_all.new.lane c.try_all.result) (c.as_slice.ensures.value ∙ p.0) c.try_all.ensures in
    none_got g.M.LaneMem.at c.args.lane.now c.args.new.now c.args.wants.now p.2 c.try_all.new.lane c.try_all.result (search rules) tried c.find_all.new.mem c.find_all.result c.if-find_all.false
    (subst (λ ls. FoundAll g.M.LaneMem.at c.try_all.new.lane.shape ls c.try_all.new.lane.memory c.find_all.new.mem c.find_all.result) (c.as_slice-2.ensures.value ∙ p.0) c.find_all.ensures)
