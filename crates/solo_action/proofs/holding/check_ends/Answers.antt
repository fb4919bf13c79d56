use Rattle.solo_action.proofs.EachEnd.{all_end, ends_more, ends_none, held_still, one_passes}
use Rattle.solo_action.proofs.holding.check_ends.Goals as goal

pub loop-action-init : goal.loop-action-init
loop-action-init g c v there each = ends_none (g.M.LaneMem.at c.args.mem.now) v c.args.actions.now there

pub ends_inside-requires-clause-held : goal.ends_inside-requires-clause-held
ends_inside-requires-clause-held g c =
    let r = c.requires.held in
    let t = c.loop-action.invariant r.0 r.1.0 r.1.1 in
    (t.view, (t.there, held_still r.0 c.args.actions.now r.1.1 c.loop-action.action-index c.loop-action-test.true (g.M.LaneMem.at c.loop-action.mem) t))

pub returns-then-not-ends_inside-clause-past : goal.returns-then-not-ends_inside-clause-past
returns-then-not-ends_inside-clause-past g c past v there each =
    let i = c.loop-action.action-index in
    let t = c.loop-action.invariant v there each in
    let at = g.M.LaneMem.at c.loop-action.mem in
    one_passes v c.args.actions.now each i c.loop-action-test.true at t (g.M.LaneMem.at c.ends_inside.new.mem)
    (c.ends_inside.ensures.past c.if-not-ends_inside.true t.view t.there (held_still v c.args.actions.now each i c.loop-action-test.true at t))

pub loop-action-preserved : goal.loop-action-preserved
loop-action-preserved g c v there each =
    let i = c.loop-action.action-index in
    let t = c.loop-action.invariant v there each in
    let at = g.M.LaneMem.at c.loop-action.mem in
    ends_more v c.args.actions.now each i c.loop-action-test.true at t (g.M.LaneMem.at c.ends_inside.new.mem)
    (c.ends_inside.ensures.inside c.if-not-ends_inside.false t.view t.there (held_still v c.args.actions.now each i c.loop-action-test.true at t))

pub returns-clause-inside : goal.returns-clause-inside
returns-clause-inside g c inside v there each = all_end (g.M.LaneMem.at c.loop-action.mem) v c.args.actions.now c.loop-action.action-index c.loop-action-test.false (c.loop-action.invariant v there each)
