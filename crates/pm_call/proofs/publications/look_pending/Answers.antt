use Rattle.std.proofs.Common.{◌+◌, ◌&&◌, slice_index_or, sym, ap, subst, arith}
use Rattle.pm_world.specs.LaneFields.{moved}
use Rattle.pm_world.specs.declared.lane.PendingAction.TheVariants as action
use Rattle.pm_call.specs.Did.{After}
use Rattle.pm_call.proofs.LookedWords.{LookedFirst, all_looked, look_more, many_still, none_looked, pending_there}
use Rattle.pm_call.proofs.publications.look_pending.Goals as goal

pub loop-i-init : goal.loop-i-init
loop-i-init g c s rests h = none_looked g.M.LaneMem.at c.args.lane.now s rests h

pub bounds-deref-i : goal.bounds-deref-i
bounds-deref-i g c =
    let r = c.requires in
    let a = c.loop-i.invariant r.standing r.rests r.holding in
    let many = many_still g.M.LaneMem.at c.args.lane.now c.loop-i.lane c.loop-i.i c.loop-i.inside
    r.standing r.rests r.holding a in
    let low = c.loop-i-test.true in
    let end = c.len-i-end.ensures.value in
    let e = ap Rattle.std.proofs.Common.length c.deref.ensures.0 in
    omega (arith, many, low, end, e)

pub look_action-requires : goal.look_action-requires
look_action-requires g c =
    let r = c.requires in
    let a = c.loop-i.invariant r.standing r.rests r.holding in
    let many = many_still g.M.LaneMem.at c.args.lane.now c.loop-i.lane c.loop-i.i c.loop-i.inside
    r.standing r.rests r.holding a in
    let low = c.loop-i-test.true in
    let end = c.len-i-end.ensures.value in record {
      standing = moved r.standing a.view;
      rests = a.holds.rests;
      holding = a.holds.holding;
      holds = pending_there g.M.LaneMem.at c.loop-i.lane c.loop-i.i action.None
          (slice_index_or c.deref.result.now c.loop-i.i action.None)
          (omega (arith, many, low, end))
          (ap (λ xs. slice_index_or xs c.loop-i.i action.None) c.deref.ensures.0)
          (moved r.standing a.view) a.holds.rests a.holds.holding;
    }

pub loop-i-preserved : goal.loop-i-preserved
loop-i-preserved g c s rests h =
    let a = c.loop-i.invariant s rests h in
    let many = many_still g.M.LaneMem.at c.args.lane.now c.loop-i.lane c.loop-i.i c.loop-i.inside
    s rests h a in
    let low = c.loop-i-test.true in
    let end = c.len-i-end.ensures.value in
    subst (λ b. After s (LookedFirst g.M.LaneMem.at c.look_action.new.lane (c.loop-i.i + 1) b))
    {x = c.loop-i.inside && c.look_action.result} (sym c.both-inside.ensures)
    (look_more g.M.LaneMem.at c.loop-i.lane c.look_action.new.lane c.loop-i.i c.loop-i.inside
    c.look_action.result (slice_index_or c.deref.result.now c.loop-i.i action.None) action.None
    (omega (arith, many, low, end))
    (ap (λ xs. slice_index_or xs c.loop-i.i action.None) c.deref.ensures.0)
    c.look_action.ensures s a)

pub returns : goal.returns
returns g c =
    all_looked g.M.LaneMem.at c.args.lane.now c.loop-i.lane c.loop-i.i c.loop-i.inside
    (let high = c.loop-i-test.false in
    let end = c.len-i-end.ensures.value in omega (arith, high, end)) c.loop-i.invariant
