use Rattle.std.proofs.Common.{◌≡◌, length, refl, sym, ap, ◌∙◌}
use Rattle.std.proofs.lemmas.Result.{IfErr-weaker, on_ok_weaker}
use Rattle.pm_objects.specs.declared.refusal.Refusal.TheVariants as refusal
use Rattle.solo_crash.specs.Pending.{pending_in}
use Rattle.solo_crash.specs.Reserving.{put_refusal}
use Rattle.solo_transaction.proofs.Puts.{put_is_listed, reserved_range}
use Rattle.solo_transaction.proofs.RefusedPuts.{put_is_refused}
use Rattle.solo_transaction.proofs.filling.put_at_work.Goals as goal

pub put_or_stop-requires : goal.put_or_stop-requires
put_or_stop-requires g c =
    let r = c.requires.at_work in
    record { may = (r.0, c.args.blocks.now, r.1, r.2, reserved_range r.0 g.M.LaneMem.at c.args.lane.now c.args.blocks.now r.1 r.2 c.args.id c.args.off (length c.args.bytes.now) (c.in-Ok.ensures.inside (pending_in r.1) r.3)) }

pub returns-in-Ok-clause-done : goal.returns-in-Ok-clause-done
returns-in-Ok-clause-done g c =
    on_ok_weaker c.put_or_stop.result
    (λ done o v is are.
    done o c.args.blocks.now v is
    (reserved_range o g.M.LaneMem.at c.args.lane.now c.args.blocks.now v is c.args.id c.args.off (length c.args.bytes.now) (c.in-Ok.ensures.inside (pending_in v) are)))
    c.put_or_stop.ensures.done

pub returns-in-Ok-clause-listed : goal.returns-in-Ok-clause-listed
returns-in-Ok-clause-listed g c =
    on_ok_weaker c.put_or_stop.result
    (λ done o v is are.
    put_is_listed o g.M.LaneMem.at c.args.lane.now c.args.blocks.now v is c.args.id c.args.off c.args.bytes.now
    (reserved_range o g.M.LaneMem.at c.args.lane.now c.args.blocks.now v is c.args.id c.args.off (length c.args.bytes.now) (c.in-Ok.ensures.inside (pending_in v) are))
    c.args.pending.now are c.in-Ok.ensures.written)
    c.put_or_stop.ensures.done

pub returns-in-Ok-clause-refuses : goal.returns-in-Ok-clause-refuses
returns-in-Ok-clause-refuses g c = IfErr-weaker c.put_or_stop.result (λ r. r ≡ refusal.Stopped) _ (λ r stopped other. absurd (other stopped)) c.put_or_stop.ensures.stopped

pub returns-in-Ok-clause-stopped : goal.returns-in-Ok-clause-stopped
returns-in-Ok-clause-stopped g c =
    IfErr-weaker c.put_or_stop.result _ _
    (λ r stops stopped o v is are.
    stops o c.args.blocks.now v is
    (reserved_range o g.M.LaneMem.at c.args.lane.now c.args.blocks.now v is c.args.id c.args.off (length c.args.bytes.now) (c.in-Ok.ensures.inside (pending_in v) are)))
    c.put_or_stop.ensures.stops

pub returns-in-Ok-clause-stopped_inside : goal.returns-in-Ok-clause-stopped_inside
returns-in-Ok-clause-stopped_inside g c =
    IfErr-weaker c.put_or_stop.result _ _
    (λ r stops stopped o v is are. reserved_range o g.M.LaneMem.at c.args.lane.now c.args.blocks.now v is c.args.id c.args.off (length c.args.bytes.now) (c.in-Ok.ensures.inside (pending_in v) are))
    c.put_or_stop.ensures.stops

pub returns-in-Err-clause-refuses : goal.returns-in-Err-clause-refuses
returns-in-Err-clause-refuses g c other o v is are =
    put_is_refused o g.M.LaneMem.at c.args.lane.now (record c.args.lane.now { memory = c.tell_put.new.self }) c.args.blocks.now v is c.args.id c.args.off c.args.bytes.now c.in-Err.why
    (ap (λ pool. put_refusal pool (pending_in v) c.args.id c.args.off (length c.args.bytes.now)) is.work.seen.pool ∙ sym (c.in-Err.ensures.reason (pending_in v) are))
    (record { pool = refl; shape = refl; locks = refl; entries = refl; level = refl; stage = refl; error = refl; drawn = refl; last = refl; stopped = refl }) refl
    (c.tell_put.ensures v is.work.seen.memory).0 c.args.pending.now are
