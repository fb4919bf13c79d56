use Rattle.std.proofs.lemmas.Result.{err_from_is_err_and}
use Rattle.solo_action.proofs.FinishedAtRest.{finished, may_give_up, stopped_finishing}
use Rattle.solo_action.proofs.canceling.finish.Goals as goal

pub give_up_pending-requires : goal.give_up_pending-requires
give_up_pending-requires g c =
    let rests = c.requires.rests in
    let r = rests.1.0 in
    record { may = (_, (c.in_ok-settle_lane.ensures.settled rests.0 r.rests.seen.memory, may_give_up g.M.LaneMem.at c.args.lane.now rests.0 r c.settle_lane.new.lane c.in_ok-settle_lane.ensures.lane c.args.pending.now rests.1.1)) }

pub returns-clause-done : goal.returns-clause-done
returns-clause-done g c v r list_is =
    finished g.M.LaneMem.at c.args.lane.now v r c.settle_lane.new.lane c.give_up_pending.new.lane c.in_ok-settle_lane.ensures.lane (c.in_ok-settle_lane.ensures.settled v r.rests.seen.memory) c.args.pending.now list_is c.give_up_pending.ensures.given c.give_up_pending.ensures.else_same

pub returns-in_err-settle_lane-clause-stops : goal.returns-in_err-settle_lane-clause-stops
returns-in_err-settle_lane-clause-stops g c =
    let p = err_from_is_err_and c.from_residual.result c.from_residual.ensures.1 in
    rw p.1 (λ v r list_is. stopped_finishing g.M.LaneMem.at c.args.lane.now v r c.settle_lane.new.lane (c.in_err-settle_lane.ensures.stops v r.rests.seen.memory))
