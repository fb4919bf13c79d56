use Rattle.std.proofs.Common.{◌≡◌, ◌⊎◌, ⊎_elim, inl, inr, refl, List, ap, sym, subst}
use Rattle.solo_crash.specs.CallBlocks.{blocks_in}
use Rattle.pm_objects.specs.declared.calls.Operation.TheVariants.{AddRange}
use Rattle.pm_objects.specs.declared.refusal.Refusal.TheVariants as refusal
use Rattle.solo_tx.specs.Ranges.{CanAdd, adds_range}
use Rattle.solo_transaction.proofs.FoundGoing.{added_with_lists}
use Rattle.solo_transaction.proofs.GoingWith.{Keeps, kept_of, looks_keep}
use Rattle.solo_transaction.proofs.RangeOrigins.{both_ok, if_any_ok, if_ok_so, new_range_of, old_is_not_made, old_of, on_any_ok, one_cause_more, on_err, on_ok, reason_of, sorted_cause, sorted_is_no_stop, stopped_or_cause, work_is_not_refused}
use Rattle.solo_transaction.proofs.RangeRefusals.{may_give_up, refused_at_once, refused_found, refusing_anywhere, stopped_anywhere, stopped_at_once}
use Rattle.solo_world.specs.declared.lane.HeldLock.{HeldLock}
use Rattle.solo_transaction.proofs.ranges.add_at_work.Goals as goal

pub do_add_new-requires : goal.do_add_new-requires
do_add_new-requires g c =
    let r = c.requires.at_work in
    record { may = (r.0, c.args.blocks.now, r.1.0, r.1.1, new_range_of r.0 g.M.LaneMem.at c.args.lane.now c.args.blocks.now r.1.0 r.1.1 c.args.id c.args.off c.args.len c.in-Ok-Made.field-0 c.in-Ok-Made.field-0-is (c.in-Ok-Made.ensures (blocks_in r.1.0) r.1.1.lists)) }

pub add_range-requires : goal.add_range-requires
add_range-requires g c = let r = c.requires.at_work in record { at_work = λ none. (r.0, (r.1.0, r.1.1.work)) }

pub returns-in-Ok-Found-clause-either : goal.returns-in-Ok-Found-clause-either
returns-in-Ok-Found-clause-either g c =
    on_any_ok _ (λ o v all. inl (old_of o g.M.LaneMem.at c.args.lane.now c.args.blocks.now v all c.args.id c.args.off c.args.len c.in-Ok-Found.field-0 c.in-Ok-Found.field-0-is (c.in-Ok-Found.ensures (blocks_in v) all.lists))) c.add_range.result

pub returns-in-Ok-Found-clause-found : goal.returns-in-Ok-Found-clause-found
returns-in-Ok-Found-clause-found g c =
    on_ok _ _
    (λ both o v all old.
    let t = both.0 o v all.work old in
    record {
      loads = t.loads;
      view = t.view;
      looks = t.looks;
      working = t.working;
      holds = (
        t.holds.0,
        t.holds.1,
        added_with_lists o g.M.LaneMem.at c.add_range.new.lane c.args.blocks.now t.view (looks_keep c.add_range.new.lane.locks.items c.args.blocks.now t.loads v t.view t.looks (subst (λ (ls : List HeldLock). Keeps ls c.args.blocks.now v) (ap (λ l. l.locks.items) (sym both.1)) (kept_of o g.M.LaneMem.at c.args.lane.now c.args.blocks.now v all))) t.working.area.lane c.args.id c.args.off c.args.len c.args.lane.now.records.items t.holds.1,
      );
    })
    c.add_range.result (both_ok _ _ c.add_range.result c.add_range.ensures.done c.add_range.ensures.lane)

pub returns-in-Ok-Found-clause-made : goal.returns-in-Ok-Found-clause-made
returns-in-Ok-Found-clause-made g c =
    on_any_ok _
    (λ o v all made.
    absurd (old_is_not_made o g.M.LaneMem.at c.args.lane.now c.args.blocks.now v all c.args.id c.args.off c.args.len made
    (old_of o g.M.LaneMem.at c.args.lane.now c.args.blocks.now v all c.args.id c.args.off c.args.len c.in-Ok-Found.field-0 c.in-Ok-Found.field-0-is (c.in-Ok-Found.ensures (blocks_in v) all.lists)))) c.add_range.result

pub returns-in-Ok-Found-clause-given_up : goal.returns-in-Ok-Found-clause-given_up
returns-in-Ok-Found-clause-given_up g c =
    let r0 = c.requires.at_work in
    on_err _ _
    (λ r given stays o v all.
    let old = old_of o g.M.LaneMem.at c.args.lane.now c.args.blocks.now v all c.args.id c.args.off c.args.len c.in-Ok-Found.field-0 c.in-Ok-Found.field-0-is (c.in-Ok-Found.ensures (blocks_in v) all.lists) in
    refused_found g.M.LaneMem.at c.add_range.new.lane c.args.lane.now.records.items (AddRange c.args.id c.args.off c.args.len) (record { id = c.args.id; off = c.args.off; len = c.args.len }) v old r
    (given (work_is_not_refused o g.M.LaneMem.at c.args.lane.now v all.work) stays o v all.work old (may_give_up o g.M.LaneMem.at c.args.lane.now c.args.blocks.now v all)))
    c.add_range.result c.add_range.ensures.given_up

pub returns-in-Ok-Found-clause-none : goal.returns-in-Ok-Found-clause-none
returns-in-Ok-Found-clause-none g c =
    let r0 = c.requires.at_work in
    on_err _ _ (λ r none stays. none (work_is_not_refused r0.0 g.M.LaneMem.at c.args.lane.now r0.1.0 r0.1.1.work) stays) c.add_range.result c.add_range.ensures.none

pub returns-in-Ok-Found-clause-given_up_lane : goal.returns-in-Ok-Found-clause-given_up_lane
returns-in-Ok-Found-clause-given_up_lane g c =
    let r0 = c.requires.at_work in
    on_err _ _ (λ r lane stays. lane (work_is_not_refused r0.0 g.M.LaneMem.at c.args.lane.now r0.1.0 r0.1.1.work) stays) c.add_range.result c.add_range.ensures.given_up_lane

pub returns-in-Ok-Found-clause-stopped : goal.returns-in-Ok-Found-clause-stopped
returns-in-Ok-Found-clause-stopped g c =
    on_err _ _
    (λ r stopped is o v all.
    let old = old_of o g.M.LaneMem.at c.args.lane.now c.args.blocks.now v all c.args.id c.args.off c.args.len c.in-Ok-Found.field-0 c.in-Ok-Found.field-0-is (c.in-Ok-Found.ensures (blocks_in v) all.lists) in
    stopped_anywhere g.M.LaneMem.at c.add_range.new.lane c.args.lane.now.records.items (AddRange c.args.id c.args.off c.args.len) (record { id = c.args.id; off = c.args.off; len = c.args.len }) v old (λ w. CanAdd w c.args.id c.args.off c.args.len) (λ w. CanAdd w c.args.id c.args.off c.args.len) (adds_range c.args.lane.now.records.items c.args.id c.args.off c.args.len) (λ w can. can)
    (stopped (work_is_not_refused o g.M.LaneMem.at c.args.lane.now v all.work) is o v all.work old (may_give_up o g.M.LaneMem.at c.args.lane.now c.args.blocks.now v all)))
    c.add_range.result c.add_range.ensures.stopped

pub returns-in-Ok-Found-clause-stopped_lane : goal.returns-in-Ok-Found-clause-stopped_lane
returns-in-Ok-Found-clause-stopped_lane g c =
    let r0 = c.requires.at_work in
    on_err _ _ (λ r lane is. lane (work_is_not_refused r0.0 g.M.LaneMem.at c.args.lane.now r0.1.0 r0.1.1.work) is) c.add_range.result c.add_range.ensures.stopped_lane

pub returns-in-Ok-Found-clause-causes : goal.returns-in-Ok-Found-clause-causes
returns-in-Ok-Found-clause-causes g c =
    let r0 = c.requires.at_work in
    on_err _ _
    (λ r cause. ⊎_elim (λ (e : r ≡ refusal.NotLocked). inl e)
    (λ (rest : (r ≡ refusal.OutOfRange) ⊎ ((r ≡ refusal.LogFull) ⊎ (r ≡ refusal.Stopped))). inr (inr rest))
    (cause (work_is_not_refused r0.0 g.M.LaneMem.at c.args.lane.now r0.1.0 r0.1.1.work)))
    c.add_range.result c.add_range.ensures.causes

pub returns-in-Ok-Made-clause-either : goal.returns-in-Ok-Made-clause-either
returns-in-Ok-Made-clause-either g c o v all =
    inr (new_range_of o g.M.LaneMem.at c.args.lane.now c.args.blocks.now v all c.args.id c.args.off c.args.len c.in-Ok-Made.field-0 c.in-Ok-Made.field-0-is (c.in-Ok-Made.ensures (blocks_in v) all.lists)).made

pub returns-in-Ok-Made-clause-found : goal.returns-in-Ok-Made-clause-found
returns-in-Ok-Made-clause-found g c o v all old =
    absurd (old_is_not_made o g.M.LaneMem.at c.args.lane.now c.args.blocks.now v all c.args.id c.args.off c.args.len
    (new_range_of o g.M.LaneMem.at c.args.lane.now c.args.blocks.now v all c.args.id c.args.off c.args.len c.in-Ok-Made.field-0 c.in-Ok-Made.field-0-is (c.in-Ok-Made.ensures (blocks_in v) all.lists)).made old)

pub returns-in-Ok-Made-clause-made : goal.returns-in-Ok-Made-clause-made
returns-in-Ok-Made-clause-made g c o v all made =
    c.do_add_new.ensures.done o c.args.blocks.now v all (new_range_of o g.M.LaneMem.at c.args.lane.now c.args.blocks.now v all c.args.id c.args.off c.args.len c.in-Ok-Made.field-0 c.in-Ok-Made.field-0-is (c.in-Ok-Made.ensures (blocks_in v) all.lists))

pub refuse-requires : goal.refuse-requires
refuse-requires g c = let r = c.requires.at_work in record { at_work = λ stays. (r.0, (r.1.0, r.1.1.work)) }

pub returns-in-Err-clause-given_up : goal.returns-in-Err-clause-given_up
returns-in-Err-clause-given_up g c =
    refused_at_once g.M.LaneMem.at c.args.lane.now c.refuse.new.lane c.args.blocks.now (AddRange c.args.id c.args.off c.args.len) (record { id = c.args.id; off = c.args.off; len = c.args.len }) refl c.in-Err.why c.refuse.result
    (λ o v all. reason_of o g.M.LaneMem.at c.args.lane.now c.args.blocks.now v all c.args.id c.args.off c.args.len (AddRange c.args.id c.args.off c.args.len) c.in-Err.why (c.in-Err.ensures (blocks_in v) all.lists))
    c.refuse.ensures.answer c.refuse.ensures.ended

pub returns-in-Err-clause-stopped : goal.returns-in-Err-clause-stopped
returns-in-Err-clause-stopped g c is o v all =
    let r0 = c.requires.at_work in
    refusing_anywhere g.M.LaneMem.at c.refuse.new.lane c.args.lane.now.records.items (AddRange c.args.id c.args.off c.args.len) (record { id = c.args.id; off = c.args.off; len = c.args.len }) v (λ w. CanAdd w c.args.id c.args.off c.args.len) (adds_range c.args.lane.now.records.items c.args.id c.args.off c.args.len)
    (stopped_at_once g.M.LaneMem.at c.args.lane.now c.refuse.new.lane c.args.blocks.now (AddRange c.args.id c.args.off c.args.len) (record { id = c.args.id; off = c.args.off; len = c.args.len }) refl c.in-Err.why c.refuse.result
    (λ o v all. reason_of o g.M.LaneMem.at c.args.lane.now c.args.blocks.now v all c.args.id c.args.off c.args.len (AddRange c.args.id c.args.off c.args.len) c.in-Err.why (c.in-Err.ensures (blocks_in v) all.lists))
    c.refuse.ensures.answer (c.refuse.ensures.stops (sorted_is_no_stop (blocks_in r0.1.0) c.args.lane.now.pool c.args.id c.args.off c.args.len c.in-Err.why (c.in-Err.ensures (blocks_in r0.1.0) r0.1.1.lists))) is o v all)

pub returns-in-Err-clause-causes : goal.returns-in-Err-clause-causes
returns-in-Err-clause-causes g c =
    let r0 = c.requires.at_work in
    one_cause_more (c.refuse.result ≡ refusal.LogFull) (stopped_or_cause c.refuse.result c.in-Err.why c.refuse.ensures.answer (sorted_cause (blocks_in r0.1.0) c.args.lane.now.pool c.args.id c.args.off c.args.len c.in-Err.why (c.in-Err.ensures (blocks_in r0.1.0) r0.1.1.lists)))

pub returns-in-Ok-Found-clause-words : goal.returns-in-Ok-Found-clause-words
returns-in-Ok-Found-clause-words g c = if_ok_so _ _ (λ count is o v all old. is) c.add_range.result c.add_range.ensures.words

pub returns-in-Ok-Found-clause-no_words : goal.returns-in-Ok-Found-clause-no_words
returns-in-Ok-Found-clause-no_words g c =
    if_any_ok _
    (λ count o v all made.
    absurd (old_is_not_made o g.M.LaneMem.at c.args.lane.now c.args.blocks.now v all c.args.id c.args.off c.args.len made
    (old_of o g.M.LaneMem.at c.args.lane.now c.args.blocks.now v all c.args.id c.args.off c.args.len c.in-Ok-Found.field-0 c.in-Ok-Found.field-0-is (c.in-Ok-Found.ensures (blocks_in v) all.lists)))) c.add_range.result

pub returns-in-Ok-Made-clause-words : goal.returns-in-Ok-Made-clause-words
returns-in-Ok-Made-clause-words g c o v all old =
    absurd (old_is_not_made o g.M.LaneMem.at c.args.lane.now c.args.blocks.now v all c.args.id c.args.off c.args.len
    (new_range_of o g.M.LaneMem.at c.args.lane.now c.args.blocks.now v all c.args.id c.args.off c.args.len c.in-Ok-Made.field-0 c.in-Ok-Made.field-0-is (c.in-Ok-Made.ensures (blocks_in v) all.lists)).made old)
