use Rattle.std.proofs.Common.{◌≡◌, ◌⊎◌, ⊎_elim, inl, inr, length, refl, List, ap, sym, subst}
use Rattle.solo_crash.specs.CallBlocks.{blocks_in}
use Rattle.solo_crash.specs.Operations.{HasNewRange}
use Rattle.pm_objects.specs.declared.calls.Operation.TheVariants.{Write}
use Rattle.pm_objects.specs.declared.refusal.Refusal.TheVariants as refusal
use Rattle.solo_tx.proofs.LearnsAtWork.{looks_none}
use Rattle.solo_tx.specs.Ranges.{CanWrite, writes_range}
use Rattle.solo_transaction.proofs.FoundGoing.{written_with_lists}
use Rattle.solo_transaction.proofs.GoingWith.{Keeps, kept_of, looks_keep}
use Rattle.solo_transaction.proofs.RangeOrigins.{both_ok, if_err_so, new_range_of, old_is_not_made, old_of, on_any_ok, one_cause_more, on_err, on_ok, reason_of, sorted_cause, sorted_is_no_stop, stopped_or_cause, work_is_not_refused}
use Rattle.solo_transaction.proofs.RangeRefusals.{may_give_up, refused_at_once, refused_found, refusing_anywhere, stopped_anywhere, stopped_at_once}
use Rattle.solo_world.specs.declared.lane.HeldLock.{HeldLock}
use Rattle.solo_transaction.proofs.ranges.write_at_work.Goals as goal

pub write_new-requires : goal.write_new-requires
write_new-requires g c =
    let r = c.requires.at_work in
    record { may = (r.0, c.args.blocks.now, r.1.0, r.1.1, new_range_of r.0 g.M.LaneMem.at c.args.lane.now c.args.blocks.now r.1.0 r.1.1 c.args.id c.args.off (length c.args.bytes.now) c.in-Ok-Made.field-0 c.in-Ok-Made.field-0-is (c.in-Ok-Made.ensures (blocks_in r.1.0) r.1.1.lists)) }

pub write-requires : goal.write-requires
write-requires g c = let r = c.requires.at_work in record { at_work = λ none. (r.0, (r.1.0, r.1.1.work)) }

pub returns-in-Ok-Found-clause-either : goal.returns-in-Ok-Found-clause-either
returns-in-Ok-Found-clause-either g c =
    on_any_ok _ (λ o v all. inl (old_of o g.M.LaneMem.at c.args.lane.now c.args.blocks.now v all c.args.id c.args.off (length c.args.bytes.now) c.in-Ok-Found.field-0 c.in-Ok-Found.field-0-is (c.in-Ok-Found.ensures (blocks_in v) all.lists))) c.write.result

pub returns-in-Ok-Found-clause-found : goal.returns-in-Ok-Found-clause-found
returns-in-Ok-Found-clause-found g c =
    on_ok _ _
    (λ both o v all old.
    let t = both.0 o v all.work old in
    record {
      loads = t.loads;
      view = t.view;
      looks = t.looks;
      working = t.working;
      holds = (
        t.holds.0,
        t.holds.1,
        written_with_lists o g.M.LaneMem.at c.write.new.lane c.args.blocks.now t.view (looks_keep c.write.new.lane.locks.items c.args.blocks.now t.loads v t.view t.looks (subst (λ (ls : List HeldLock). Keeps ls c.args.blocks.now v) (ap (λ l. l.locks.items) (sym both.1)) (kept_of o g.M.LaneMem.at c.args.lane.now c.args.blocks.now v all))) t.working.area.lane c.args.id c.args.off c.args.bytes.now t.holds.1,
      );
    })
    c.write.result (both_ok _ _ c.write.result c.write.ensures.done c.write.ensures.lane)

pub returns-in-Ok-Found-clause-made : goal.returns-in-Ok-Found-clause-made
returns-in-Ok-Found-clause-made g c =
    on_any_ok _
    (λ o v all made.
    absurd (old_is_not_made o g.M.LaneMem.at c.args.lane.now c.args.blocks.now v all c.args.id c.args.off (length c.args.bytes.now) made
    (old_of o g.M.LaneMem.at c.args.lane.now c.args.blocks.now v all c.args.id c.args.off (length c.args.bytes.now) c.in-Ok-Found.field-0 c.in-Ok-Found.field-0-is (c.in-Ok-Found.ensures (blocks_in v) all.lists)))) c.write.result

pub returns-in-Ok-Found-clause-given_up : goal.returns-in-Ok-Found-clause-given_up
returns-in-Ok-Found-clause-given_up g c =
    let r0 = c.requires.at_work in
    on_err _ _
    (λ r given stays o v all.
    let old = old_of o g.M.LaneMem.at c.args.lane.now c.args.blocks.now v all c.args.id c.args.off (length c.args.bytes.now) c.in-Ok-Found.field-0 c.in-Ok-Found.field-0-is (c.in-Ok-Found.ensures (blocks_in v) all.lists) in
    refused_found g.M.LaneMem.at c.write.new.lane c.args.lane.now.records.items (Write c.args.id c.args.off c.args.bytes.now) (record { id = c.args.id; off = c.args.off; len = length c.args.bytes.now }) v old r
    (given (work_is_not_refused o g.M.LaneMem.at c.args.lane.now v all.work) stays o v all.work old (may_give_up o g.M.LaneMem.at c.args.lane.now c.args.blocks.now v all)))
    c.write.result c.write.ensures.given_up

pub returns-in-Ok-Found-clause-none : goal.returns-in-Ok-Found-clause-none
returns-in-Ok-Found-clause-none g c =
    let r0 = c.requires.at_work in
    on_err _ _ (λ r none stays. none (work_is_not_refused r0.0 g.M.LaneMem.at c.args.lane.now r0.1.0 r0.1.1.work) stays) c.write.result c.write.ensures.none

pub returns-in-Ok-Found-clause-given_up_lane : goal.returns-in-Ok-Found-clause-given_up_lane
returns-in-Ok-Found-clause-given_up_lane g c =
    let r0 = c.requires.at_work in
    on_err _ _ (λ r lane stays. lane (work_is_not_refused r0.0 g.M.LaneMem.at c.args.lane.now r0.1.0 r0.1.1.work) stays) c.write.result c.write.ensures.given_up_lane

pub returns-in-Ok-Found-clause-stopped : goal.returns-in-Ok-Found-clause-stopped
returns-in-Ok-Found-clause-stopped g c =
    on_err _ _
    (λ r stopped is o v all.
    let old = old_of o g.M.LaneMem.at c.args.lane.now c.args.blocks.now v all c.args.id c.args.off (length c.args.bytes.now) c.in-Ok-Found.field-0 c.in-Ok-Found.field-0-is (c.in-Ok-Found.ensures (blocks_in v) all.lists) in
    stopped_anywhere g.M.LaneMem.at c.write.new.lane c.args.lane.now.records.items (Write c.args.id c.args.off c.args.bytes.now) (record { id = c.args.id; off = c.args.off; len = length c.args.bytes.now }) v old (λ w. CanWrite w c.args.id c.args.off (length c.args.bytes.now)) (λ w. CanWrite w c.args.id c.args.off (length c.args.bytes.now) ⊎ HasNewRange w c.args.id c.args.off (length c.args.bytes.now)) (writes_range c.args.id c.args.off c.args.bytes.now) (λ w can. inl can)
    (stopped (work_is_not_refused o g.M.LaneMem.at c.args.lane.now v all.work) is o v all.work old (may_give_up o g.M.LaneMem.at c.args.lane.now c.args.blocks.now v all)))
    c.write.result c.write.ensures.stopped

pub returns-in-Ok-Found-clause-stopped_lane : goal.returns-in-Ok-Found-clause-stopped_lane
returns-in-Ok-Found-clause-stopped_lane g c =
    let r0 = c.requires.at_work in
    on_err _ _ (λ r lane is. lane (work_is_not_refused r0.0 g.M.LaneMem.at c.args.lane.now r0.1.0 r0.1.1.work) is) c.write.result c.write.ensures.stopped_lane

pub returns-in-Ok-Found-clause-causes : goal.returns-in-Ok-Found-clause-causes
returns-in-Ok-Found-clause-causes g c =
    let r0 = c.requires.at_work in
    on_err _ _
    (λ r cause. ⊎_elim (λ (e : r ≡ refusal.NotLocked). inl e)
    (λ (rest : (r ≡ refusal.OutOfRange) ⊎ ((r ≡ refusal.NotAdded) ⊎ (r ≡ refusal.Stopped))). inr (inr rest))
    (cause (work_is_not_refused r0.0 g.M.LaneMem.at c.args.lane.now r0.1.0 r0.1.1.work)))
    c.write.result c.write.ensures.causes

pub returns-in-Ok-Made-clause-either : goal.returns-in-Ok-Made-clause-either
returns-in-Ok-Made-clause-either g c = on_any_ok _ (λ o v all. inr (new_range_of o g.M.LaneMem.at c.args.lane.now c.args.blocks.now v all c.args.id c.args.off (length c.args.bytes.now) c.in-Ok-Made.field-0 c.in-Ok-Made.field-0-is (c.in-Ok-Made.ensures (blocks_in v) all.lists)).made) c.write_new.result

pub returns-in-Ok-Made-clause-found : goal.returns-in-Ok-Made-clause-found
returns-in-Ok-Made-clause-found g c =
    on_any_ok _
    (λ o v all old.
    absurd (old_is_not_made o g.M.LaneMem.at c.args.lane.now c.args.blocks.now v all c.args.id c.args.off (length c.args.bytes.now)
    (new_range_of o g.M.LaneMem.at c.args.lane.now c.args.blocks.now v all c.args.id c.args.off (length c.args.bytes.now) c.in-Ok-Made.field-0 c.in-Ok-Made.field-0-is (c.in-Ok-Made.ensures (blocks_in v) all.lists)).made old)) c.write_new.result

pub returns-in-Ok-Made-clause-made : goal.returns-in-Ok-Made-clause-made
returns-in-Ok-Made-clause-made g c =
    on_ok _ _ (λ done o v all made. done o c.args.blocks.now v all (new_range_of o g.M.LaneMem.at c.args.lane.now c.args.blocks.now v all c.args.id c.args.off (length c.args.bytes.now) c.in-Ok-Made.field-0 c.in-Ok-Made.field-0-is (c.in-Ok-Made.ensures (blocks_in v) all.lists))) c.write_new.result c.write_new.ensures.done

pub returns-in-Ok-Made-clause-stopped : goal.returns-in-Ok-Made-clause-stopped
returns-in-Ok-Made-clause-stopped g c =
    if_err_so _ _
    (λ r stops is o v all.
    let range : HasNewRange v c.args.id c.args.off (length c.args.bytes.now) = new_range_of o g.M.LaneMem.at c.args.lane.now c.args.blocks.now v all c.args.id c.args.off (length c.args.bytes.now) c.in-Ok-Made.field-0 c.in-Ok-Made.field-0-is (c.in-Ok-Made.ensures (blocks_in v) all.lists) in
    record { loads = 0; view = v; looks = looks_none v; working = all.work.working; holds = inl (inr range, stops o c.args.blocks.now v all range) }) c.write_new.result c.write_new.ensures.stops

pub refuse_write-requires : goal.refuse_write-requires
refuse_write-requires g c = let r = c.requires.at_work in record { at_work = λ stays. (r.0, (r.1.0, r.1.1.work)) }

pub returns-in-Err-clause-given_up : goal.returns-in-Err-clause-given_up
returns-in-Err-clause-given_up g c =
    refused_at_once g.M.LaneMem.at c.args.lane.now c.refuse_write.new.lane c.args.blocks.now (Write c.args.id c.args.off c.args.bytes.now) (record { id = c.args.id; off = c.args.off; len = length c.args.bytes.now }) refl c.in-Err.why c.refuse_write.result
    (λ o v all. reason_of o g.M.LaneMem.at c.args.lane.now c.args.blocks.now v all c.args.id c.args.off (length c.args.bytes.now) (Write c.args.id c.args.off c.args.bytes.now) c.in-Err.why (c.in-Err.ensures (blocks_in v) all.lists))
    c.refuse_write.ensures.answer c.refuse_write.ensures.ended

pub returns-in-Err-clause-stopped : goal.returns-in-Err-clause-stopped
returns-in-Err-clause-stopped g c is o v all =
    let r0 = c.requires.at_work in
    refusing_anywhere g.M.LaneMem.at c.refuse_write.new.lane c.args.lane.now.records.items (Write c.args.id c.args.off c.args.bytes.now) (record { id = c.args.id; off = c.args.off; len = length c.args.bytes.now }) v (λ w. CanWrite w c.args.id c.args.off (length c.args.bytes.now) ⊎ HasNewRange w c.args.id c.args.off (length c.args.bytes.now)) (writes_range c.args.id c.args.off c.args.bytes.now)
    (stopped_at_once g.M.LaneMem.at c.args.lane.now c.refuse_write.new.lane c.args.blocks.now (Write c.args.id c.args.off c.args.bytes.now) (record { id = c.args.id; off = c.args.off; len = length c.args.bytes.now }) refl c.in-Err.why c.refuse_write.result
    (λ o v all. reason_of o g.M.LaneMem.at c.args.lane.now c.args.blocks.now v all c.args.id c.args.off (length c.args.bytes.now) (Write c.args.id c.args.off c.args.bytes.now) c.in-Err.why (c.in-Err.ensures (blocks_in v) all.lists))
    c.refuse_write.ensures.answer (c.refuse_write.ensures.stops (sorted_is_no_stop (blocks_in r0.1.0) c.args.lane.now.pool c.args.id c.args.off (length c.args.bytes.now) c.in-Err.why (c.in-Err.ensures (blocks_in r0.1.0) r0.1.1.lists))) is o v all)

pub returns-in-Err-clause-causes : goal.returns-in-Err-clause-causes
returns-in-Err-clause-causes g c =
    let r0 = c.requires.at_work in
    one_cause_more (c.refuse_write.result ≡ refusal.NotAdded) (stopped_or_cause c.refuse_write.result c.in-Err.why c.refuse_write.ensures.answer (sorted_cause (blocks_in r0.1.0) c.args.lane.now.pool c.args.id c.args.off (length c.args.bytes.now) c.in-Err.why (c.in-Err.ensures (blocks_in r0.1.0) r0.1.1.lists)))
