use Rattle.std.proofs.Common.{◌+◌, None, length, refl, true, Err, arith, rules}
use Rattle.pm_objects.specs.declared.calls.Operation.TheVariants.{Write}
use Rattle.solo_view.specs.Steps.Step.{Tell}
use Rattle.solo_world.specs.Sequences.{one}
use Rattle.solo_world.proofs.Sequencing.{allowed_one, ready_then, runs_err, runs_then}
use Rattle.solo_tx.proofs.Committed.{on_err}
use Rattle.solo_tx.proofs.Objects.{range_is_low}
use Rattle.solo_tx.proofs.Telling.{is_ready, runs_made, was_made, was_stopped}
use Rattle.solo_tx.proofs.WritesAtWork.{write_is_made, write_may_be_made, write_stops, writes_first}
use Rattle.solo_tx.specs.Ranges.{writes_range}
use Rattle.solo_tx.specs.Sequences.{writes}
use Rattle.solo_tx.proofs.writing.do_write.Goals as goal

pub overflow_add-id : goal.overflow_add-id
overflow_add-id g c = let r = c.requires.may in let e = range_is_low r.1 r.2.objects c.args.id c.args.off (length c.args.bytes.now) true r.3.range r.0 r.2.sound r.2.opening r.2.zones in omega (arith, e)

pub write_words-requires-clause-range : goal.write_words-requires-clause-range
write_words-requires-clause-range g c = let r = c.requires.may in range_is_low r.1 r.2.objects c.args.id c.args.off (length c.args.bytes.now) true r.3.range r.0 r.2.sound r.2.opening r.2.zones

pub write_words-requires-clause-ready : goal.write_words-requires-clause-ready
unfolding writes_range
write_words-requires-clause-ready g c =
    let r = c.requires.may in
    is_ready (g.M.LaneMem.at c.args.lane.now.memory) (writes (c.args.id.off + c.args.off) c.args.bytes.now) r.1 r.2.seen.memory (writes_first r.0 g.M.LaneMem.at c.args.lane.now r.1 r.2 c.args.id c.args.off c.args.bytes.now r.3)

pub returns-in_err-write_words-clause-ran : goal.returns-in_err-write_words-clause-ran
unfolding writes_range
returns-in_err-write_words-clause-ran g c =
    runs_err (Unit {0}) (g.M.LaneMem.at c.args.lane.now.memory) (g.M.LaneMem.at c.write_words.new.mem) (writes (c.args.id.off + c.args.off) c.args.bytes.now) (one (Tell (Write c.args.id c.args.off c.args.bytes.now) None))
    c.in_err-write_words.field-0.0 c.from_residual.result c.from_residual.ensures.0 c.in_err-write_words.ensures

pub tell_write-requires : goal.tell_write-requires
unfolding writes_range
tell_write-requires g c =
    let r = c.requires.may in
    let tell = one (Tell (Write c.args.id c.args.off c.args.bytes.now) None) in
    let ready = ready_then (g.M.LaneMem.at c.args.lane.now.memory) (g.M.LaneMem.at c.write_words.new.mem) (writes (c.args.id.off + c.args.off) c.args.bytes.now) tell tt
    (is_ready (g.M.LaneMem.at c.args.lane.now.memory) (writes_range c.args.id c.args.off c.args.bytes.now) r.1 r.2.seen.memory (write_may_be_made r.0 g.M.LaneMem.at c.args.lane.now r.1 r.2 c.args.id c.args.off c.args.bytes.now r.3)) c.in_ok-write_words.ensures in
    let t = allowed_one (g.M.LaneMem.at c.write_words.new.mem) (Tell (Write c.args.id c.args.off c.args.bytes.now) None) ready in
    g.met.M.LawfulMem.meets c.write_words.new.mem t.0 (Tell (Write c.args.id c.args.off c.args.bytes.now) None) t.1.0 t.1.1

pub returns-clause-ran : goal.returns-clause-ran
unfolding writes_range
returns-clause-ran g c =
    runs_then (g.M.LaneMem.at c.args.lane.now.memory) (g.M.LaneMem.at c.write_words.new.mem) (g.M.LaneMem.at c.tell_write.new.self) (writes (c.args.id.off + c.args.off) c.args.bytes.now) (one (Tell (Write c.args.id c.args.off c.args.bytes.now) None)) tt _
    c.in_ok-write_words.ensures (runs_made (g.M.LaneMem.at c.write_words.new.mem) (g.M.LaneMem.at c.tell_write.new.self) (Tell (Write c.args.id c.args.off c.args.bytes.now) None) c.tell_write.ensures)

pub returns-clause-done : goal.returns-clause-done
returns-clause-done g c o v work old can =
    let first = writes_first o g.M.LaneMem.at c.args.lane.now v work c.args.id c.args.off c.args.bytes.now can in
    write_is_made o g.M.LaneMem.at c.args.lane.now v work c.args.id c.args.off c.args.bytes.now can old (λ i. let e = c.type_inv.bytes i in omega (arith, e)) _
    (record { pool = refl; shape = refl; locks = refl; entries = refl; level = refl; stage = refl; error = refl; drawn = refl; last = refl; stopped = refl }) refl
    (c.tell_write.ensures _ (was_made (g.M.LaneMem.at c.args.lane.now.memory) (g.M.LaneMem.at c.write_words.new.mem) (writes (c.args.id.off + c.args.off) c.args.bytes.now) tt c.in_ok-write_words.ensures v work.seen.memory first)).0

pub returns-in_err-write_words-clause-stops : goal.returns-in_err-write_words-clause-stops
unfolding writes_range
returns-in_err-write_words-clause-stops g c =
    let old = g.M.LaneMem.at c.args.lane.now.memory in
    let new = g.M.LaneMem.at c.write_words.new.mem in
    let stopped = c.in_err-write_words.field-0.0 in
    on_err _ c.from_residual.result
    (λ o v work can.
    write_stops o g.M.LaneMem.at c.args.lane.now v work c.args.id c.args.off c.args.bytes.now can new
    (was_stopped old new (writes_range c.args.id c.args.off c.args.bytes.now) stopped
    (runs_err (Unit {0}) old new (writes (c.args.id.off + c.args.off) c.args.bytes.now) (one (Tell (Write c.args.id c.args.off c.args.bytes.now) None)) stopped (Err stopped) (search rules) c.in_err-write_words.ensures)
    v work.seen.memory (write_may_be_made o g.M.LaneMem.at c.args.lane.now v work c.args.id c.args.off c.args.bytes.now can)))
