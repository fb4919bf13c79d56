use Rattle.std.proofs.Common.{◌≡◌, ◌⊎◌, ⊎_elim, inl, inr, length, refl, List, ap, sym, subst}
use Rattle.solo_crash.specs.CallBlocks.{blocks_in}
use Rattle.pm_objects.specs.declared.calls.Operation.TheVariants.{Read}
use Rattle.pm_objects.specs.declared.refusal.Refusal.TheVariants as refusal
use Rattle.solo_transaction.proofs.FoundGoing.{read_with_lists}
use Rattle.solo_transaction.proofs.GoingWith.{Keeps, kept_of, looks_keep}
use Rattle.solo_transaction.proofs.RangeOrigins.{both_ok, new_range_of, old_is_not_made, old_of, on_any_ok, on_err, on_ok, reason_of, sorted_cause, sorted_is_no_stop, stopped_or_cause, work_is_not_refused}
use Rattle.solo_transaction.proofs.RangeRefusals.{may_give_up, refused_at_once, refused_found, stopped_at_once, stopped_found}
use Rattle.solo_world.specs.declared.lane.HeldLock.{HeldLock}
use Rattle.solo_transaction.proofs.ranges.read_at_work.Goals as goal

pub do_read_new-requires : goal.do_read_new-requires
do_read_new-requires g c =
    let r = c.requires.at_work in
    record { may = (r.0, c.args.blocks.now, r.1.0, r.1.1, new_range_of r.0 g.M.LaneMem.at c.args.lane.now c.args.blocks.now r.1.0 r.1.1 c.args.id c.args.off (length c.args.into.now) c.in-Ok-Made.field-0 c.in-Ok-Made.field-0-is (c.in-Ok-Made.ensures (blocks_in r.1.0) r.1.1.lists)) }

pub read-requires : goal.read-requires
read-requires g c = let r = c.requires.at_work in record { at_work = λ none. (r.0, (r.1.0, r.1.1.work)) }

pub returns-in-Ok-Found-clause-either : goal.returns-in-Ok-Found-clause-either
returns-in-Ok-Found-clause-either g c =
    on_any_ok _ (λ o v all. inl (old_of o g.M.LaneMem.at c.args.lane.now c.args.blocks.now v all c.args.id c.args.off (length c.args.into.now) c.in-Ok-Found.field-0 c.in-Ok-Found.field-0-is (c.in-Ok-Found.ensures (blocks_in v) all.lists))) c.read.result

pub returns-in-Ok-Found-clause-found : goal.returns-in-Ok-Found-clause-found
returns-in-Ok-Found-clause-found g c =
    on_ok _ _
    (λ both o v all old.
    let t = both.0 o v all.work old in
    record {
      loads = t.loads;
      view = t.view;
      looks = t.looks;
      working = t.working;
      holds = (
        t.holds.0,
        t.holds.1,
        read_with_lists o g.M.LaneMem.at c.read.new.lane c.args.blocks.now t.view (looks_keep c.read.new.lane.locks.items c.args.blocks.now t.loads v t.view t.looks (subst (λ (ls : List HeldLock). Keeps ls c.args.blocks.now v) (ap (λ l. l.locks.items) (sym both.1)) (kept_of o g.M.LaneMem.at c.args.lane.now c.args.blocks.now v all))) t.working.area.lane c.args.id c.args.off (length c.args.into.now) c.read.new.into t.holds.1,
      );
    })
    c.read.result (both_ok _ _ c.read.result c.read.ensures.done c.read.ensures.lane)

pub returns-in-Ok-Found-clause-made : goal.returns-in-Ok-Found-clause-made
returns-in-Ok-Found-clause-made g c =
    on_any_ok _
    (λ o v all made.
    absurd (old_is_not_made o g.M.LaneMem.at c.args.lane.now c.args.blocks.now v all c.args.id c.args.off (length c.args.into.now) made
    (old_of o g.M.LaneMem.at c.args.lane.now c.args.blocks.now v all c.args.id c.args.off (length c.args.into.now) c.in-Ok-Found.field-0 c.in-Ok-Found.field-0-is (c.in-Ok-Found.ensures (blocks_in v) all.lists)))) c.read.result

pub returns-in-Ok-Found-clause-given_up : goal.returns-in-Ok-Found-clause-given_up
returns-in-Ok-Found-clause-given_up g c =
    let r0 = c.requires.at_work in
    on_err _ _
    (λ r given stays o v all.
    let old = old_of o g.M.LaneMem.at c.args.lane.now c.args.blocks.now v all c.args.id c.args.off (length c.args.into.now) c.in-Ok-Found.field-0 c.in-Ok-Found.field-0-is (c.in-Ok-Found.ensures (blocks_in v) all.lists) in
    refused_found g.M.LaneMem.at c.read.new.lane c.args.lane.now.records.items (Read c.args.id c.args.off (length c.args.into.now)) (record { id = c.args.id; off = c.args.off; len = length c.args.into.now }) v old r
    (given (work_is_not_refused o g.M.LaneMem.at c.args.lane.now v all.work) stays o v all.work old (may_give_up o g.M.LaneMem.at c.args.lane.now c.args.blocks.now v all)))
    c.read.result c.read.ensures.given_up

pub returns-in-Ok-Found-clause-none : goal.returns-in-Ok-Found-clause-none
returns-in-Ok-Found-clause-none g c =
    let r0 = c.requires.at_work in
    on_err _ _ (λ r none stays. none (work_is_not_refused r0.0 g.M.LaneMem.at c.args.lane.now r0.1.0 r0.1.1.work) stays) c.read.result c.read.ensures.none

pub returns-in-Ok-Found-clause-given_up_lane : goal.returns-in-Ok-Found-clause-given_up_lane
returns-in-Ok-Found-clause-given_up_lane g c =
    let r0 = c.requires.at_work in
    on_err _ _ (λ r lane stays. lane (work_is_not_refused r0.0 g.M.LaneMem.at c.args.lane.now r0.1.0 r0.1.1.work) stays) c.read.result c.read.ensures.given_up_lane

pub returns-in-Ok-Found-clause-stopped : goal.returns-in-Ok-Found-clause-stopped
returns-in-Ok-Found-clause-stopped g c =
    on_err _ _
    (λ r stopped is o v all.
    let old = old_of o g.M.LaneMem.at c.args.lane.now c.args.blocks.now v all c.args.id c.args.off (length c.args.into.now) c.in-Ok-Found.field-0 c.in-Ok-Found.field-0-is (c.in-Ok-Found.ensures (blocks_in v) all.lists) in
    stopped_found g.M.LaneMem.at c.read.new.lane c.args.lane.now.records.items (Read c.args.id c.args.off (length c.args.into.now)) (record { id = c.args.id; off = c.args.off; len = length c.args.into.now }) v old
    (stopped (work_is_not_refused o g.M.LaneMem.at c.args.lane.now v all.work) is o v all.work old (may_give_up o g.M.LaneMem.at c.args.lane.now c.args.blocks.now v all)))
    c.read.result c.read.ensures.stopped

pub returns-in-Ok-Found-clause-stopped_lane : goal.returns-in-Ok-Found-clause-stopped_lane
returns-in-Ok-Found-clause-stopped_lane g c =
    let r0 = c.requires.at_work in
    on_err _ _ (λ r lane is. lane (work_is_not_refused r0.0 g.M.LaneMem.at c.args.lane.now r0.1.0 r0.1.1.work) is) c.read.result c.read.ensures.stopped_lane

pub returns-in-Ok-Found-clause-causes : goal.returns-in-Ok-Found-clause-causes
returns-in-Ok-Found-clause-causes g c =
    let r0 = c.requires.at_work in
    on_err _ _
    (λ r cause. ⊎_elim (λ (e : r ≡ refusal.NotLocked). inl e)
    (λ (rest : (r ≡ refusal.OutOfRange) ⊎ (r ≡ refusal.Stopped)). inr (inr rest))
    (cause (work_is_not_refused r0.0 g.M.LaneMem.at c.args.lane.now r0.1.0 r0.1.1.work)))
    c.read.result c.read.ensures.causes

pub returns-in-Ok-Made-clause-either : goal.returns-in-Ok-Made-clause-either
returns-in-Ok-Made-clause-either g c o v all =
    inr (new_range_of o g.M.LaneMem.at c.args.lane.now c.args.blocks.now v all c.args.id c.args.off (length c.args.into.now) c.in-Ok-Made.field-0 c.in-Ok-Made.field-0-is (c.in-Ok-Made.ensures (blocks_in v) all.lists)).made

pub returns-in-Ok-Made-clause-found : goal.returns-in-Ok-Made-clause-found
returns-in-Ok-Made-clause-found g c o v all old =
    absurd (old_is_not_made o g.M.LaneMem.at c.args.lane.now c.args.blocks.now v all c.args.id c.args.off (length c.args.into.now)
    (new_range_of o g.M.LaneMem.at c.args.lane.now c.args.blocks.now v all c.args.id c.args.off (length c.args.into.now) c.in-Ok-Made.field-0 c.in-Ok-Made.field-0-is (c.in-Ok-Made.ensures (blocks_in v) all.lists)).made old)

pub returns-in-Ok-Made-clause-made : goal.returns-in-Ok-Made-clause-made
returns-in-Ok-Made-clause-made g c o v all made =
    c.do_read_new.ensures.done o c.args.blocks.now v all (new_range_of o g.M.LaneMem.at c.args.lane.now c.args.blocks.now v all c.args.id c.args.off (length c.args.into.now) c.in-Ok-Made.field-0 c.in-Ok-Made.field-0-is (c.in-Ok-Made.ensures (blocks_in v) all.lists))

pub refuse-requires : goal.refuse-requires
refuse-requires g c = let r = c.requires.at_work in record { at_work = λ stays. (r.0, (r.1.0, r.1.1.work)) }

pub returns-in-Err-clause-given_up : goal.returns-in-Err-clause-given_up
returns-in-Err-clause-given_up g c =
    refused_at_once g.M.LaneMem.at c.args.lane.now c.refuse.new.lane c.args.blocks.now (Read c.args.id c.args.off (length c.args.into.now)) (record { id = c.args.id; off = c.args.off; len = length c.args.into.now }) refl c.in-Err.why c.refuse.result
    (λ o v all. reason_of o g.M.LaneMem.at c.args.lane.now c.args.blocks.now v all c.args.id c.args.off (length c.args.into.now) (Read c.args.id c.args.off (length c.args.into.now)) c.in-Err.why (c.in-Err.ensures (blocks_in v) all.lists))
    c.refuse.ensures.answer c.refuse.ensures.ended

pub returns-in-Err-clause-stopped : goal.returns-in-Err-clause-stopped
returns-in-Err-clause-stopped g c =
    let r0 = c.requires.at_work in
    stopped_at_once g.M.LaneMem.at c.args.lane.now c.refuse.new.lane c.args.blocks.now (Read c.args.id c.args.off (length c.args.into.now)) (record { id = c.args.id; off = c.args.off; len = length c.args.into.now }) refl c.in-Err.why c.refuse.result
    (λ o v all. reason_of o g.M.LaneMem.at c.args.lane.now c.args.blocks.now v all c.args.id c.args.off (length c.args.into.now) (Read c.args.id c.args.off (length c.args.into.now)) c.in-Err.why (c.in-Err.ensures (blocks_in v) all.lists))
    c.refuse.ensures.answer (c.refuse.ensures.stops (sorted_is_no_stop (blocks_in r0.1.0) c.args.lane.now.pool c.args.id c.args.off (length c.args.into.now) c.in-Err.why (c.in-Err.ensures (blocks_in r0.1.0) r0.1.1.lists)))

pub returns-in-Err-clause-causes : goal.returns-in-Err-clause-causes
returns-in-Err-clause-causes g c =
    let r0 = c.requires.at_work in
    stopped_or_cause c.refuse.result c.in-Err.why c.refuse.ensures.answer (sorted_cause (blocks_in r0.1.0) c.args.lane.now.pool c.args.id c.args.off (length c.args.into.now) c.in-Err.why (c.in-Err.ensures (blocks_in r0.1.0) r0.1.1.lists))
