use Rattle.std.proofs.Common.{refl, subst, sym}
use Rattle.std.proofs.lemmas.Result.{IfErr-weaker, IfOk-weaker, err_from_is_err_and}
use Rattle.solo_epoch.specs.Reserving.{with_next_call}
use Rattle.solo_pending.specs.AllPending.{IsPendingAs}
use Rattle.solo_tx.proofs.BeginPlanned.{no_locks}
use Rattle.solo_action.proofs.BeginningAlone.{begins_alone_next, next_pending}
use Rattle.solo_action.proofs.ReservedSinceRest.{refused_since_rest, reserved_since_rest, stopped_since_rest}
use Rattle.solo_action.proofs.RestingAgain.{fields_kept}
use Rattle.solo_action.proofs.reserving.reserve.Goals as goal

pub returns-in_err-start-clause-refuses : goal.returns-in_err-start-clause-refuses
returns-in_err-start-clause-refuses g c =
    let p = err_from_is_err_and c.from_residual.result c.from_residual.ensures.1 in
    rw (p.1, p.2, c.in_err-start.ensures.causes) (λ unstopped unspent. absurd (unspent refl))

pub reserve_begun-requires-clause-begun : goal.reserve_begun-requires-clause-begun
reserve_begun-requires-clause-begun g c =
    let r = c.requires.rests c.if-lane.false in
    let s = c.in_ok-start.ensures.begun r.0 r.1.0.rests in (
      with_next_call r.0,
      (
        begins_alone_next g.M.LaneMem.at c.args.lane.now c.start.new.lane r.0 c.in_ok-start.field-0 r.1.0 s c.start.ensures.else_same,
        subst (IsPendingAs c.args.pending.now) (sym (next_pending g.M.LaneMem.at c.args.lane.now c.start.new.lane r.0 c.in_ok-start.field-0 r.1.0 s)) r.1.1,
      ),
    )

pub reserve_begun-requires-clause-free : goal.reserve_begun-requires-clause-free
reserve_begun-requires-clause-free g c =
    let r = c.requires.rests c.if-lane.false in
    no_locks g.M.LaneMem.at c.args.lane.now c.start.new.lane r.0 c.in_ok-start.field-0 (c.in_ok-start.ensures.begun r.0 r.1.0.rests) r.1.0.rests c.start.ensures.else_same

pub returns-clause-done : goal.returns-clause-done
returns-clause-done g c =
    IfOk-weaker c.reserve_begun.result _ _
    (λ id done v r are.
    let s = c.in_ok-start.ensures.begun v r.rests in
    reserved_since_rest g.M.LaneMem.at c.args.lane.now c.start.new.lane v c.in_ok-start.field-0 r s c.args.size c.args.kind c.reserve_begun.new.lane c.reserve_begun.new.pending id
    (done (with_next_call v) (begins_alone_next g.M.LaneMem.at c.args.lane.now c.start.new.lane v c.in_ok-start.field-0 r s c.start.ensures.else_same)
    (subst (IsPendingAs c.args.pending.now) (sym (next_pending g.M.LaneMem.at c.args.lane.now c.start.new.lane v c.in_ok-start.field-0 r s)) are)))
    c.reserve_begun.ensures.done

pub returns-clause-refuses : goal.returns-clause-refuses
returns-clause-refuses g c =
    IfErr-weaker c.reserve_begun.result _ _
    (λ why refuses unstopped unspent v r are.
    let s = c.in_ok-start.ensures.begun v r.rests in
    refused_since_rest g.M.LaneMem.at c.args.lane.now c.start.new.lane v c.in_ok-start.field-0 r s c.args.size c.args.kind c.reserve_begun.new.lane why
    (refuses unstopped (with_next_call v) (begins_alone_next g.M.LaneMem.at c.args.lane.now c.start.new.lane v c.in_ok-start.field-0 r s c.start.ensures.else_same)
    (subst (IsPendingAs c.args.pending.now) (sym (next_pending g.M.LaneMem.at c.args.lane.now c.start.new.lane v c.in_ok-start.field-0 r s)) are)))
    c.reserve_begun.ensures.refuses

pub returns-clause-stops : goal.returns-clause-stops
returns-clause-stops g c stopped v r =
    let s = c.in_ok-start.ensures.begun v r.rests in
    stopped_since_rest g.M.LaneMem.at c.args.lane.now c.start.new.lane v c.in_ok-start.field-0 r s c.args.size c.args.kind c.start.ensures.else_same c.reserve_begun.new.lane (c.reserve_begun.ensures.stopped_lane stopped)
    (c.reserve_begun.ensures.stops stopped (with_next_call v) (begins_alone_next g.M.LaneMem.at c.args.lane.now c.start.new.lane v c.in_ok-start.field-0 r s c.start.ensures.else_same))

pub returns-clause-lane : goal.returns-clause-lane
returns-clause-lane g c going =
    let r = c.requires.rests c.if-lane.false in
    fields_kept g.M.LaneMem.at c.args.lane.now c.start.new.lane c.reserve_begun.new.lane r.0 c.in_ok-start.field-0 r.1.0.rests (c.in_ok-start.ensures.begun r.0 r.1.0.rests) c.start.ensures.else_same (c.reserve_begun.ensures.free going) (c.reserve_begun.ensures.lane going)
