use Rattle.std.proofs.Common.{◌++◌, ◌^◌, ◌<◌, List, sym, ap, ◌∙◌, subst, Ok, Err}
use Rattle.std.specs.List.{All}
use Rattle.pm_plan.specs.Plans.{IsReady, Runs}
use Rattle.pm_world.specs.LaneFields.{fields_of}
use Rattle.pm_world.specs.declared.lane.KeptRecord.{KeptRecord}
use Rattle.pm_undo.specs.Plans.{logs_here}
use Rattle.pm_undo.proofs.Snapped.{logged_err, logged_ok, look_ready, write_lane, write_low, write_ready}
use Rattle.pm_undo.proofs.snapshots.log_spans.Goals as goal

pub read_all-kept-requires-clause-ready : goal.read_all-kept-requires-clause-ready
read_all-kept-requires-clause-ready g c = look_ready g.M.LaneMem.at c.args.lane.now c.args.spans.now
    c.requires.room c.len-slot.result c.len-slot.ensures.value c.requires.stands

pub write_new-requires-clause-lane : goal.write_new-requires-clause-lane
write_new-requires-clause-lane g c = write_lane g.M.LaneMem.at c.args.lane.now c.args.spans.now
    c.requires.room c.len-slot.result c.len-slot.ensures.value c.read_all-kept.new.mem
    c.read_all-kept.result.items c.read_all-kept.ensures.made c.read_all-kept.ensures.found
    c.requires.stands

pub write_new-requires-clause-low : goal.write_new-requires-clause-low
write_new-requires-clause-low g c =
    subst (λ (ks : List KeptRecord). All (λ (r : KeptRecord). r.word < 2 ^ 60) ks)
    (sym c.as_slice.ensures.value) (write_low g.M.LaneMem.at c.args.lane.now c.args.spans.now
    c.requires.room c.len-slot.result c.len-slot.ensures.value c.read_all-kept.new.mem
    c.read_all-kept.result.items c.read_all-kept.ensures.made c.read_all-kept.ensures.found
    c.requires.stands c.requires.spans)

pub write_new-requires-clause-ready : goal.write_new-requires-clause-ready
write_new-requires-clause-ready g c =
    subst (λ (ks : List KeptRecord). IsReady (g.M.LaneMem.at c.read_all-kept.new.mem)
    (logs_here c.args.lane.now.shape c.args.lane.now.log.generation c.len-slot.result ks))
    (sym c.as_slice.ensures.value) (write_ready g.M.LaneMem.at c.args.lane.now c.args.spans.now
    c.requires.room c.len-slot.result c.len-slot.ensures.value c.read_all-kept.new.mem
    c.read_all-kept.result.items c.read_all-kept.ensures.made c.read_all-kept.ensures.found
    c.requires.stands)

pub returns-in_err-write_new : goal.returns-in_err-write_new
returns-in_err-write_new g c = logged_err g.M.LaneMem.at c.args.lane.now c.args.spans.now
    c.requires.room c.len-slot.result c.len-slot.ensures.value c.read_all-kept.new.mem
    c.read_all-kept.result.items c.read_all-kept.ensures.made c.read_all-kept.ensures.found
    (Unit {0}) c.write_new.new.mem c.in_err-write_new.field-0.0 c.from_residual.result
    c.from_residual.ensures.0
    (subst (λ (ks : List KeptRecord). Runs {T = Unit {0}} (g.M.LaneMem.at c.read_all-kept.new.mem)
    (g.M.LaneMem.at c.write_new.new.mem)
    (logs_here c.args.lane.now.shape c.args.lane.now.log.generation c.len-slot.result ks)
    (Err c.in_err-write_new.field-0.0)) c.as_slice.ensures.value c.in_err-write_new.ensures)

pub returns : goal.returns
returns g c = logged_ok g.M.LaneMem.at c.args.lane.now c.args.spans.now c.requires.room
    c.len-slot.result c.len-slot.ensures.value c.read_all-kept.new.mem c.read_all-kept.result.items
    c.read_all-kept.ensures.made c.read_all-kept.ensures.found
    (record c.args.lane.now {
      memory = c.write_new.new.mem;
      log = record c.args.lane.now.log { records = c.extend.new.records };
    })
    (subst (λ (ks : List KeptRecord). Runs {T = Unit {0}} (g.M.LaneMem.at c.read_all-kept.new.mem)
    (g.M.LaneMem.at c.write_new.new.mem)
    (logs_here c.args.lane.now.shape c.args.lane.now.log.generation c.len-slot.result ks)
    (Ok tt)) c.as_slice.ensures.value c.in_ok-write_new.ensures)
    (ap (λ items. record (fields_of c.args.lane.now) {
      generation = c.args.lane.now.log.generation;
      records = items;
    }) (c.extend.ensures
    ∙ ap (λ (ks : List KeptRecord). c.args.lane.now.log.records.items ++ ks)
    c.as_slice-2.ensures.value))
