use Rattle.std.proofs.Common.{◌≡◌, ⊎_elim, inl, inr, ◌∙◌, length, sym}
use Rattle.std.proofs.lemmas.Result.{IfErr-weaker, on_ok_weaker}
use Rattle.pm_objects.specs.declared.refusal.Refusal.TheVariants as refusal
use Rattle.solo_crash.specs.Pending.{pending_before, pending_in}
use Rattle.solo_crash.specs.Reserving.{put_refusal}
use Rattle.solo_epoch.proofs.OutsideCalls.{pending_untold}
use Rattle.solo_transaction.proofs.RangeOrigins.{if_err_so}
use Rattle.solo_action.proofs.PutsOutside.{put_goes_on, put_listed, put_reasons, range_reserved, refused_put_ends}
use Rattle.solo_action.proofs.filling.put_begun.Goals as goal

pub put_or_stop-requires-clause-may : goal.put_or_stop-requires-clause-may
put_or_stop-requires-clause-may g c =
    let r = c.requires.begun in (
      r.0,
      (r.1.0, range_reserved g.M.LaneMem.at c.args.lane.now r.0 r.1.0.begun c.args.id c.args.off (length c.args.bytes.now) (c.in-Ok.ensures.inside (pending_in r.0) r.1.1)),
    )

pub returns-in-Ok-clause-done : goal.returns-in-Ok-clause-done
returns-in-Ok-clause-done g c =
    on_ok_weaker c.put_or_stop.result
    (λ done w b are. done w b (range_reserved g.M.LaneMem.at c.args.lane.now w b.begun c.args.id c.args.off (length c.args.bytes.now) (c.in-Ok.ensures.inside (pending_in w) are)))
    c.put_or_stop.ensures.done

pub returns-in-Ok-clause-listed : goal.returns-in-Ok-clause-listed
returns-in-Ok-clause-listed g c =
    on_ok_weaker c.put_or_stop.result
    (λ done w b are.
    let t = b.world in
    put_listed t.0 t.1 t.2 t.3 t.4 w c.args.lane.now.shape t.5 c.args.id c.args.off c.args.bytes.now
    (range_reserved g.M.LaneMem.at c.args.lane.now w b.begun c.args.id c.args.off (length c.args.bytes.now) (c.in-Ok.ensures.inside (pending_in w) are)) c.args.pending.now are c.in-Ok.ensures.written)
    c.put_or_stop.ensures.done

pub returns-in-Ok-clause-refuses : goal.returns-in-Ok-clause-refuses
returns-in-Ok-clause-refuses g c = IfErr-weaker c.put_or_stop.result (λ r. r ≡ refusal.Stopped) _ (λ r stopped other. absurd (other stopped)) c.put_or_stop.ensures.stopped

pub returns-in-Ok-clause-stops : goal.returns-in-Ok-clause-stops
returns-in-Ok-clause-stops g c =
    if_err_so _ _
    (λ r stops stopped w b are.
    let range = range_reserved g.M.LaneMem.at c.args.lane.now w b.begun c.args.id c.args.off (length c.args.bytes.now) (c.in-Ok.ensures.inside (pending_in w) are) in
    (range, stops w b range)) c.put_or_stop.result
    c.put_or_stop.ensures.stops

pub returns-in-Err-clause-refuses : goal.returns-in-Err-clause-refuses
returns-in-Err-clause-refuses g c other w b are =
    let before : pending_in w ≡ pending_before w = pending_untold w b.begun.untold in
    let reason = (λ j. put_refusal (b.begun.seen.pool j) (sym before j) c.args.id c.args.off (length c.args.bytes.now)) ∙ sym (c.in-Err.ensures.reason (pending_in w) are) in
    record { reason = reason; told = c.end_put.ensures.told w b.begun (refused_put_ends g.M.LaneMem.at c.args.lane.now w b.begun c.args.id c.args.off c.args.bytes.now c.in-Err.why reason) }

pub returns-in-Err-clause-stops : goal.returns-in-Err-clause-stops
returns-in-Err-clause-stops g c stopped =
    let r = c.requires.begun in
    absurd (put_goes_on c.args.lane.now.pool (pending_in r.0) c.args.id c.args.off (length c.args.bytes.now) c.in-Err.why (c.in-Err.ensures.reason (pending_in r.0) r.1.1) stopped)

pub returns-in-Err-clause-stopped_lane : goal.returns-in-Err-clause-stopped_lane
returns-in-Err-clause-stopped_lane g c stopped =
    let r = c.requires.begun in
    let is : c.in-Err.why ≡ refusal.Stopped = cc in
    absurd (put_goes_on c.args.lane.now.pool (pending_in r.0) c.args.id c.args.off (length c.args.bytes.now) c.in-Err.why (c.in-Err.ensures.reason (pending_in r.0) r.1.1) is)

pub returns-in-Err-clause-causes : goal.returns-in-Err-clause-causes
returns-in-Err-clause-causes g c =
    let r = c.requires.begun in
    ⊎_elim (λ (is : c.in-Err.why ≡ refusal.NotReserved). inl is) (λ (is : c.in-Err.why ≡ refusal.OutOfRange). inr (inl is))
    (put_reasons c.args.lane.now.pool (pending_in r.0) c.args.id c.args.off (length c.args.bytes.now) c.in-Err.why (c.in-Err.ensures.reason (pending_in r.0) r.1.1))
