use Rattle.std.proofs.Common.{◌+◌, Err, None, refl, true, arith, rules}
use Rattle.pm_objects.specs.declared.calls.Operation.TheVariants.{AddRange}
use Rattle.solo_undo.specs.Sequences.{snapshots}
use Rattle.solo_view.specs.Steps.Step.{Tell}
use Rattle.solo_world.specs.Sequences.{one}
use Rattle.solo_world.proofs.Sequencing.{allowed_one, ready_then, runs_err, runs_then}
use Rattle.solo_tx.proofs.AddsAtWork.{lane_adds_first, lane_has_added, lane_may_add, lane_overfills, lane_stops}
use Rattle.solo_tx.proofs.GoingOn.{fields_same}
use Rattle.solo_tx.proofs.Objects.{range_is_low}
use Rattle.solo_tx.proofs.Telling.{is_ready, runs_made, was_made, was_stopped}
use Rattle.solo_tx.specs.Ranges.{adds_range}
use Rattle.solo_tx.proofs.adding.do_add.Goals as goal

pub overflow_add-id : goal.overflow_add-id
overflow_add-id g c = let r = c.requires.may in let e = range_is_low r.1 r.2.objects c.args.id c.args.off c.args.len true r.3.range r.0 r.2.sound r.2.opening r.2.zones in omega (arith, e)

pub snapshot-requires-clause-range : goal.snapshot-requires-clause-range
snapshot-requires-clause-range g c = let r = c.requires.may in range_is_low r.1 r.2.objects c.args.id c.args.off c.args.len true r.3.range r.0 r.2.sound r.2.opening r.2.zones

pub snapshot-requires-clause-area : goal.snapshot-requires-clause-area
snapshot-requires-clause-area g c = let r = c.requires.may in (r.1, (r.2.seen.memory, r.2.working.area))

pub snapshot-requires-clause-ready : goal.snapshot-requires-clause-ready
snapshot-requires-clause-ready g c room =
    let r = c.requires.may in
    is_ready (g.M.LaneMem.at c.args.lane.now.memory) (snapshots c.args.lane.now.records.items (c.args.id.off + c.args.off) c.args.len) r.1 r.2.seen.memory
    (lane_adds_first r.0 g.M.LaneMem.at c.args.lane.now r.1 r.2 c.args.id c.args.off c.args.len r.3 room)

pub returns-in_err-count-clause-full : goal.returns-in_err-count-clause-full
returns-in_err-count-clause-full g c e o v work can = (refl, lane_overfills o g.M.LaneMem.at c.args.lane.now v work c.args.id c.args.off c.args.len can (c.snapshot.ensures.full (search rules)))

pub returns-in_err-count-clause-stopped : goal.returns-in_err-count-clause-stopped
unfolding adds_range
returns-in_err-count-clause-stopped g c e =
    let s = c.snapshot.ensures.stopped (search rules) in (
      s.0,
      runs_err (Unit {0}) (g.M.LaneMem.at c.args.lane.now.memory) (g.M.LaneMem.at c.snapshot.new.lane.memory) (snapshots c.args.lane.now.records.items (c.args.id.off + c.args.off) c.args.len) (one (Tell (AddRange c.args.id c.args.off c.args.len) None)) s.0 (Err s.0) (search rules) s.1,
    )

pub tell_added-requires : goal.tell_added-requires
unfolding adds_range
tell_added-requires g c =
    let r = c.requires.may in
    let tell = one (Tell (AddRange c.args.id c.args.off c.args.len) None) in
    let ready = ready_then (g.M.LaneMem.at c.args.lane.now.memory) (g.M.LaneMem.at c.snapshot.new.lane.memory) (snapshots c.args.lane.now.records.items (c.args.id.off + c.args.off) c.args.len) tell tt
    (is_ready (g.M.LaneMem.at c.args.lane.now.memory) (adds_range c.args.lane.now.records.items c.args.id c.args.off c.args.len) r.1 r.2.seen.memory
    (lane_may_add r.0 g.M.LaneMem.at c.args.lane.now r.1 r.2 c.args.id c.args.off c.args.len r.3 c.in_ok-count.ensures.room)) c.in_ok-count.ensures.made in
    let t = allowed_one (g.M.LaneMem.at c.snapshot.new.lane.memory) (Tell (AddRange c.args.id c.args.off c.args.len) None) ready in
    g.met.M.LawfulMem.meets c.snapshot.new.lane.memory t.0 (Tell (AddRange c.args.id c.args.off c.args.len) None) t.1.0 t.1.1

pub returns-clause-made : goal.returns-clause-made
unfolding adds_range
returns-clause-made g c =
    runs_then (g.M.LaneMem.at c.args.lane.now.memory) (g.M.LaneMem.at c.snapshot.new.lane.memory) (g.M.LaneMem.at c.tell_added.new.mem) (snapshots c.args.lane.now.records.items (c.args.id.off + c.args.off) c.args.len) (one (Tell (AddRange c.args.id c.args.off c.args.len) None)) tt _
    c.in_ok-count.ensures.made (runs_made (g.M.LaneMem.at c.snapshot.new.lane.memory) (g.M.LaneMem.at c.tell_added.new.mem) (Tell (AddRange c.args.id c.args.off c.args.len) None) c.tell_added.ensures)

pub returns-clause-done : goal.returns-clause-done
returns-clause-done g c o v work old can =
    let same = fields_same c.args.lane.now c.snapshot.new.lane c.in_ok-count.ensures.else_same in
    let room = c.in_ok-count.ensures.room in
    lane_has_added o g.M.LaneMem.at c.args.lane.now v work c.args.id c.args.off c.args.len can old room
    (range_is_low v work.objects c.args.id c.args.off c.args.len true can.range o work.sound work.opening work.zones) _
    (record { pool = same.pool; shape = same.shape; locks = same.locks; entries = same.entries; level = same.level; stage = same.stage; error = same.error; drawn = same.drawn; last = same.last; stopped = same.stopped })
    c.in_ok-count.ensures.recorded
    (c.tell_added.ensures _
    (was_made (g.M.LaneMem.at c.args.lane.now.memory) (g.M.LaneMem.at c.snapshot.new.lane.memory) (snapshots c.args.lane.now.records.items (c.args.id.off + c.args.off) c.args.len) tt c.in_ok-count.ensures.made v work.seen.memory
    (lane_adds_first o g.M.LaneMem.at c.args.lane.now v work c.args.id c.args.off c.args.len can room))).0

pub returns-in_err-count-clause-stops : goal.returns-in_err-count-clause-stops
unfolding adds_range
returns-in_err-count-clause-stops g c e o v work can =
    let old = g.M.LaneMem.at c.args.lane.now.memory in
    let new = g.M.LaneMem.at c.snapshot.new.lane.memory in
    let s = c.snapshot.ensures.stopped (search rules) in
    let room = c.snapshot.ensures.stopped_room (search rules) in
    lane_stops o g.M.LaneMem.at c.args.lane.now v work c.args.id c.args.off c.args.len can room new
    (was_stopped old new (adds_range c.args.lane.now.records.items c.args.id c.args.off c.args.len) s.0
    (runs_err (Unit {0}) old new (snapshots c.args.lane.now.records.items (c.args.id.off + c.args.off) c.args.len) (one (Tell (AddRange c.args.id c.args.off c.args.len) None)) s.0 (Err s.0) (search rules) s.1) v work.seen.memory
    (lane_may_add o g.M.LaneMem.at c.args.lane.now v work c.args.id c.args.off c.args.len can room))
