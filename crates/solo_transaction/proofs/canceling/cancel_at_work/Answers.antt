use Rattle.std.proofs.lemmas.Result.{err_from_is_err_and}
use Rattle.solo_transaction.proofs.CanceledAtWork.{gave_up, may_give_up}
use Rattle.solo_transaction.proofs.canceling.cancel_at_work.Goals as goal

pub give_up_pending-requires : goal.give_up_pending-requires
give_up_pending-requires g c =
    let t = c.requires.at_work in
    let a = t.6 in
    let has = c.in_ok-cancel_call.ensures.done t.0 t.5 a.work.work in
    let told = c.cancel_call.new.lane in
    record {
      may = (
        _,
        (has.works.seen.memory, may_give_up t.0 t.1 t.2 g.M.LaneMem.at t.3 t.5 t.4 c.args.lane.now told c.args.blocks.now a.works a.work c.in_ok-cancel_call.ensures.lane has (g.met.M.ReservedMem.counts told.memory) c.args.pending.now a.listed),
      );
    }

pub returns-clause-done : goal.returns-clause-done
returns-clause-done g c o header pool start v steps alone =
    let told = c.cancel_call.new.lane in
    gave_up o header pool g.M.LaneMem.at start v steps c.args.lane.now told c.args.blocks.now alone.works alone.work c.in_ok-cancel_call.ensures.lane (c.in_ok-cancel_call.ensures.done o v alone.work.work) (g.met.M.ReservedMem.counts told.memory)
    c.give_up_pending.new.lane c.give_up_pending.ensures.else_same c.args.pending.now alone.listed c.give_up_pending.ensures.given

pub returns-in_err-cancel_call-clause-stops : goal.returns-in_err-cancel_call-clause-stops
returns-in_err-cancel_call-clause-stops g c =
    let p = err_from_is_err_and c.from_residual.result c.from_residual.ensures.1 in
    rw p.1 (λ o v is. c.in_err-cancel_call.ensures.stops o v is.work)
