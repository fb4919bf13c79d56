use Rattle.std.proofs.Common.{◌≡◌, ◌∙◌, [], ap}
use Rattle.std.proofs.lemmas.Result.{err_from_is_err_and}
use Rattle.solo_tx.proofs.BeginPlanned.{no_locks}
use Rattle.solo_world.specs.declared.lane.Lane.{Lane}
use Rattle.solo_action.proofs.AloneAtRest.{rests_is_alone}
use Rattle.solo_action.proofs.CanceledOutside.{canceled, may_give_up, stopped_canceling, told_rests}
use Rattle.solo_action.proofs.NextBegun.{has_next_begun}
use Rattle.solo_action.proofs.RestingAgain.{fields_behind, fields_kept, memory_behind, shape_kept}
use Rattle.solo_action.proofs.ToldOutside.{begun_unlocked}
use Rattle.solo_action.proofs.canceling.cancel.Goals as goal

pub settle_begun-requires : goal.settle_begun-requires
settle_begun-requires g c = let r = c.requires.rests c.if-lane.false in record { begun = (_, (c.in_ok-start.ensures.begun r.0 r.1.0.rests).begun) }

pub returns-in_err-settle_begun-clause-ends : goal.returns-in_err-settle_begun-clause-ends
returns-in_err-settle_begun-clause-ends g c v r list_is =
    let p = err_from_is_err_and c.from_residual-in_err-settle_begun.result c.from_residual-in_err-settle_begun.ensures.1 in
    let s = c.in_ok-start.ensures.begun v r.rests in
    let is = has_next_begun g.M.LaneMem.at c.start.new.lane v c.in_ok-start.field-0 (rests_is_alone g.M.LaneMem.at c.args.lane.now v r) s in
    rw (p.1, p.2, c.in_err-settle_begun.ensures.stopped)
    (stopped_canceling g.M.LaneMem.at c.args.lane.now c.start.new.lane v r c.in_ok-start.field-0 s c.settle_begun.new.lane (c.in_err-settle_begun.ensures.stops _ is) c.in_err-settle_begun.ensures.stopped_lane)

pub end_outside-requires : goal.end_outside-requires
end_outside-requires g c =
    let r = c.requires.rests c.if-lane.false in
    let s = c.in_ok-start.ensures.begun r.0 r.1.0.rests in
    let begun = c.in_ok-settle_begun.ensures.begun _ s.begun in
    let free = ap (λ (l : Lane g.row.M.Denot). l.locks.items) c.in_ok-settle_begun.ensures.lane ∙ no_locks g.M.LaneMem.at c.args.lane.now c.start.new.lane r.0 c.in_ok-start.field-0 s r.1.0.rests c.start.ensures.else_same in
    record { begun = (_, (begun, begun_unlocked g.M.LaneMem.at c.settle_begun.new.lane _ begun free)) }

pub give_up_pending-requires : goal.give_up_pending-requires
give_up_pending-requires g c =
    let rests = c.requires.rests c.if-lane.false in
    let v = rests.0 in
    let r = rests.1.0 in
    let n = c.in_ok-start.field-0 in
    let s = c.in_ok-start.ensures.begun v r.rests in
    let start = c.start.new.lane in
    let settled = c.settle_begun.new.lane in
    let told = c.end_outside.new.lane in
    let is = has_next_begun g.M.LaneMem.at start v n (rests_is_alone g.M.LaneMem.at c.args.lane.now v r) s in
    let begun = c.in_ok-settle_begun.ensures.begun _ is in
    let free : settled.locks.items ≡ [] = ap (λ (l : Lane g.row.M.Denot). l.locks.items) c.in_ok-settle_begun.ensures.lane ∙ no_locks g.M.LaneMem.at c.args.lane.now start v n s r.rests c.start.ensures.else_same in
    let shape : told.shape ≡ c.args.lane.now.shape = shape_kept c.args.lane.now start settled told c.start.ensures.else_same c.in_ok-settle_begun.ensures.lane c.end_outside.ensures.lane in
    let at_rest = told_rests g.M.LaneMem.at c.args.lane.now start v r n s settled.locks.items free told (c.end_outside.ensures.closed _ begun (begun_unlocked g.M.LaneMem.at settled _ begun free)) in
    record { may = (_, (at_rest.seen.memory, may_give_up g.M.LaneMem.at c.args.lane.now start v r n s told shape c.args.pending.now rests.1.1)) }

pub returns-clause-ends : goal.returns-clause-ends
returns-clause-ends g c v r list_is =
    let n = c.in_ok-start.field-0 in
    let s = c.in_ok-start.ensures.begun v r.rests in
    let start = c.start.new.lane in
    let settled = c.settle_begun.new.lane in
    let told = c.end_outside.new.lane in
    let is = has_next_begun g.M.LaneMem.at start v n (rests_is_alone g.M.LaneMem.at c.args.lane.now v r) s in
    let begun = c.in_ok-settle_begun.ensures.begun _ is in
    let free : settled.locks.items ≡ [] = ap (λ (l : Lane g.row.M.Denot). l.locks.items) c.in_ok-settle_begun.ensures.lane ∙ no_locks g.M.LaneMem.at c.args.lane.now start v n s r.rests c.start.ensures.else_same in
    let shape : told.shape ≡ c.args.lane.now.shape = shape_kept c.args.lane.now start settled told c.start.ensures.else_same c.in_ok-settle_begun.ensures.lane c.end_outside.ensures.lane in
    let at_rest = told_rests g.M.LaneMem.at c.args.lane.now start v r n s settled.locks.items free told (c.end_outside.ensures.closed _ begun (begun_unlocked g.M.LaneMem.at settled _ begun free)) in
    canceled g.M.LaneMem.at c.args.lane.now start v r n s told c.give_up_pending.new.lane shape at_rest c.give_up_pending.ensures.else_same c.args.pending.now list_is c.give_up_pending.ensures.given (g.met.M.ReservedMem.counts told.memory)

pub returns-clause-lane : goal.returns-clause-lane
returns-clause-lane g c unstopped =
    let rests = c.requires.rests c.if-lane.false in
    let r = rests.1.0.rests in
    let kept = fields_kept g.M.LaneMem.at c.args.lane.now c.start.new.lane c.end_outside.new.lane rests.0 c.in_ok-start.field-0 r (c.in_ok-start.ensures.begun rests.0 r) c.start.ensures.else_same c.end_outside.ensures.free
    (fields_behind c.start.new.lane c.settle_begun.new.lane c.end_outside.new.lane c.in_ok-settle_begun.ensures.lane c.end_outside.ensures.lane) in
    memory_behind c.args.lane.now c.end_outside.new.lane c.give_up_pending.new.lane kept c.give_up_pending.ensures.else_same
