use Rattle.std.proofs.Common.{refl}
use Rattle.pm_redo.proofs.Engines.{log_ready, logged_err, logged_ok}
use Rattle.pm_redo.proofs.pairs.log.Goals as goal

pub write_entries-requires-clause-ready : goal.write_entries-requires-clause-ready
write_entries-requires-clause-ready g c = log_ready g.M.LaneMem.at c.args.lane.now
    c.lane-number.result c.lane-number.ensures c.args.generation c.as_slice.result.now
    c.as_slice.ensures.value c.end-last.result c.end-last.ensures c.requires

pub returns-in_err-write_entries : goal.returns-in_err-write_entries
returns-in_err-write_entries g c =
    logged_err g.M.LaneMem.at c.args.lane.now c.lane-number.result c.lane-number.ensures
    c.args.generation c.as_slice.result.now c.as_slice.ensures.value c.end-last.result
    c.end-last.ensures c.write_entries.new.mem (Unit {0}) c.in_err-write_entries.field-0.0
    c.from_residual.result c.from_residual.ensures.0 c.in_err-write_entries.ensures

pub returns : goal.returns
returns g c =
    logged_ok g.M.LaneMem.at c.args.lane.now c.lane-number.result c.lane-number.ensures
    c.args.generation c.as_slice.result.now c.as_slice.ensures.value c.end-last.result
    c.end-last.ensures c.write_entries.new.mem
    (record c.args.lane.now { memory = c.write_entries.new.mem; entries = c.push.new.self })
    c.in_ok-write_entries.ensures refl c.push.ensures.items
