use Rattle.std.proofs.lemmas.Result.{err_from_is_err_and}
use Rattle.solo_action.proofs.HeldBegun.{holds_to_publish}
use Rattle.solo_action.proofs.PublishEnds.{published_further, stops_further}
use Rattle.solo_action.proofs.RefusedHolding.{begun_alone}
use Rattle.solo_action.proofs.publishing.publish_begun.Goals as goal

pub publish_kinds-requires-clause-may : goal.publish_kinds-requires-clause-may
publish_kinds-requires-clause-may g c =
    let w = c.requires.begun.0 in let is = c.requires.begun.1 in
    (_, holds_to_publish g.M.LaneMem.at c.args.lane.now c.hold_actions.new.lane c.args.pending.now w is (c.in_ok-hold_actions.ensures.held w is) g.met.M.ReservedMem.counts)

pub returns-in_err-publish_kinds-clause-ends : goal.returns-in_err-publish_kinds-clause-ends
returns-in_err-publish_kinds-clause-ends g c w is =
    let p = err_from_is_err_and c.from_residual-in_err-publish_kinds.result c.from_residual-in_err-publish_kinds.ensures.1 in
    let goes = c.in_ok-hold_actions.ensures.held w is in
    rw (p.1, p.2, c.in_err-publish_kinds.ensures.stopped)
    (stops_further g.M.LaneMem.at c.publish_kinds.new.lane w goes.view (begun_alone g.M.LaneMem.at c.args.lane.now w is.begins) goes.led goes.entries c.args.pending.now c.publish_kinds.new.blocks
    (c.in_err-publish_kinds.ensures.stops goes.view (holds_to_publish g.M.LaneMem.at c.args.lane.now c.hold_actions.new.lane c.args.pending.now w is goes g.met.M.ReservedMem.counts)))

pub returns-clause-ends : goal.returns-clause-ends
returns-clause-ends g c w is =
    let goes = c.in_ok-hold_actions.ensures.held w is in
    published_further g.M.LaneMem.at c.publish_kinds.new.lane w goes.view (begun_alone g.M.LaneMem.at c.args.lane.now w is.begins) goes.led goes.entries c.args.pending.now c.publish_kinds.new.blocks
    (c.in_ok-publish_kinds.ensures.done goes.view (holds_to_publish g.M.LaneMem.at c.args.lane.now c.hold_actions.new.lane c.args.pending.now w is goes g.met.M.ReservedMem.counts))
