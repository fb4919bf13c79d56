use Rattle.std.proofs.Common.{◌+◌, ◌%◌, ◌^◌, ◌<◌, length, sym, subst, arith, true, Some}
use Rattle.pm_objects.specs.declared.calls.Operation.TheVariants.{Increment}
use Rattle.pm_objects.specs.declared.history.Value.TheVariants.{Number}
use Rattle.pm_view.specs.Steps.Step.{Tell}
use Rattle.pm_call.proofs.Increments.{sum_cut, sum_ok, sum_ready, sum_tell}
use Rattle.pm_call.proofs.LockedRanges.{range_low}
use Rattle.pm_call.proofs.incrementing.do_increment.Goals as goal

pub overflow_add-id : goal.overflow_add-id
overflow_add-id g c =
    let r = c.requires in
    let l = range_low r.standing r.stands c.args.id c.args.off 8 true r.holds.range in omega (arith, l)

pub write_words-requires-clause-range : goal.write_words-requires-clause-range
write_words-requires-clause-range g c =
    let r = c.requires in
    subst (λ bytes. c.args.id.off + c.args.off + length bytes < 2 ^ 60) (sym c.to_le_bytes.ensures)
    (range_low r.standing r.stands c.args.id c.args.off 8 true r.holds.range)

pub write_words-requires-clause-ready : goal.write_words-requires-clause-ready
write_words-requires-clause-ready g c =
    sum_ready g.M.LaneMem.at c.args.lane.now c.read_number.new.lane c.args.id c.args.off c.args.by c.read_number.result c.to_le_bytes.result c.to_le_bytes.ensures c.read_number.ensures
    c.requires

pub tell-requires : goal.tell-requires
tell-requires g c =
    let m = sum_tell g.M.LaneMem.at c.args.lane.now c.read_number.new.lane c.args.id c.args.off c.args.by c.read_number.result c.to_le_bytes.result c.to_le_bytes.ensures c.read_number.ensures
    c.write_words.new.mem c.requires c.in-Ok.ensures in
    g.met.M.LawfulMem.meets c.write_words.new.mem m.0
    (Tell (Increment c.args.id c.args.off c.args.by)
    (Some (Number ((c.read_number.result + c.args.by) % 2 ^ 64)))) m.1 m.2

pub returns-in-Ok : goal.returns-in-Ok
returns-in-Ok g c =
    sum_ok g.M.LaneMem.at c.args.lane.now c.read_number.new.lane c.args.id c.args.off c.args.by c.read_number.result c.to_le_bytes.result c.to_le_bytes.ensures c.read_number.ensures
    g.M.LaneMem.may g.met.M.LawfulMem.grants c.write_words.new.mem c.tell.new.self c.in-Ok.ensures
    c.tell.ensures

pub returns-in-Err : goal.returns-in-Err
returns-in-Err g c =
    sum_cut g.M.LaneMem.at c.args.lane.now c.read_number.new.lane c.args.id c.args.off c.args.by c.read_number.result c.to_le_bytes.result c.to_le_bytes.ensures c.read_number.ensures
    c.write_words.new.mem c.in-Err.field-0 c.in-Err.ensures
