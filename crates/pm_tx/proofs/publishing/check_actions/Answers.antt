use Rattle.std.proofs.Common.{◌+◌, length, slice_index_or, arith, ap, subst, sym}
use Rattle.pm_world.specs.LaneFields.{moved}
use Rattle.pm_world.specs.declared.lane.PendingAction.TheVariants as action
use Rattle.pm_call.specs.Did.{After}
use Rattle.pm_tx.specs.Publishing.{earlier}
use Rattle.pm_tx.proofs.CheckedWords.{CheckedFirst, all_checked, check_more, many_still, none_checked}
use Rattle.pm_tx.proofs.publishing.check_actions.Goals as goal

pub loop-i-init : goal.loop-i-init
loop-i-init g c s works is = none_checked g.M.LaneMem.at c.args.lane.now s works is

pub bounds-deref-i : goal.bounds-deref-i
bounds-deref-i g c =
    let r = c.requires in
    let a = c.loop-i.invariant r.standing r.works r.stands in
    let many = many_still g.M.LaneMem.at c.args.lane.now c.loop-i.lane c.loop-i.i c.loop-i.checked
    r.standing r.works r.stands a in
    let low = c.loop-i-test.true in
    let end = c.len-i-end.ensures.value in
    let e = ap length c.deref.ensures.0 in
    omega (arith, many, low, end, e)

pub check_action-requires : goal.check_action-requires
check_action-requires g c =
    let r = c.requires in
    let a = c.loop-i.invariant r.standing r.works r.stands in
    record { standing = moved r.standing a.view; works = a.holds.works; stands = a.holds.stands }

pub loop-i-preserved : goal.loop-i-preserved
loop-i-preserved g c s works is =
    let a = c.loop-i.invariant s works is in
    let many = many_still g.M.LaneMem.at c.args.lane.now c.loop-i.lane c.loop-i.i c.loop-i.checked
    s works is a in
    let low = c.loop-i-test.true in
    let end = c.len-i-end.ensures.value in
    subst (λ r. After s (CheckedFirst g.M.LaneMem.at c.check_action.new.lane (c.loop-i.i + 1) r))
    {x = earlier c.loop-i.checked c.check_action.result} (sym c.earlier-checked.ensures)
    (check_more g.M.LaneMem.at c.loop-i.lane c.check_action.new.lane c.loop-i.i c.loop-i.checked
    c.check_action.result (slice_index_or c.deref.result.now c.loop-i.i action.None) action.None
    (omega (arith, many, low, end))
    (ap (λ xs. slice_index_or xs c.loop-i.i action.None) c.deref.ensures.0)
    c.check_action.ensures s a)

pub returns : goal.returns
returns g c =
    all_checked g.M.LaneMem.at c.args.lane.now c.loop-i.lane c.loop-i.i c.loop-i.checked
    (let high = c.loop-i-test.false in
    let end = c.len-i-end.ensures.value in omega (arith, high, end)) c.loop-i.invariant
