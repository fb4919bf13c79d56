use Rattle.std.proofs.Common.{arith, None}
use Rattle.pm_objects.specs.declared.calls.Operation.TheVariants.{Write}
use Rattle.pm_view.specs.Steps.Step.{Tell}
use Rattle.pm_call.proofs.WriteLanes.{low, tell_may, words_ready, wrote_err, wrote_ok}
use Rattle.pm_call.proofs.writing.do_write.Goals as goal

pub overflow_add-id : goal.overflow_add-id
overflow_add-id g c = let l = low g.M.LaneMem.at c.args.lane.now c.args.id c.args.off c.args.bytes.now c.requires in omega (arith, l)

pub write_words-requires-clause-range : goal.write_words-requires-clause-range
write_words-requires-clause-range g c = low g.M.LaneMem.at c.args.lane.now c.args.id c.args.off c.args.bytes.now c.requires

pub write_words-requires-clause-ready : goal.write_words-requires-clause-ready
write_words-requires-clause-ready g c = words_ready g.M.LaneMem.at c.args.lane.now c.args.id c.args.off c.args.bytes.now c.requires

pub tell-requires : goal.tell-requires
tell-requires g c =
    let m = tell_may g.M.LaneMem.at c.args.lane.now c.args.id c.args.off c.args.bytes.now c.write_words.new.mem c.requires c.in-Ok.ensures in
    g.met.M.LawfulMem.meets c.write_words.new.mem m.0 (Tell (Write c.args.id c.args.off c.args.bytes.now) None) m.1 m.2

pub returns-in-Ok : goal.returns-in-Ok
returns-in-Ok g c = wrote_ok g.M.LaneMem.at c.args.lane.now c.args.id c.args.off c.args.bytes.now g.M.LaneMem.may g.met.M.LawfulMem.grants c.write_words.new.mem c.tell.new.self c.in-Ok.ensures c.tell.ensures

pub returns-in-Err : goal.returns-in-Err
returns-in-Err g c = wrote_err g.M.LaneMem.at c.args.lane.now c.args.id c.args.off c.args.bytes.now c.write_words.new.mem c.in-Err.field-0 c.in-Err.ensures
