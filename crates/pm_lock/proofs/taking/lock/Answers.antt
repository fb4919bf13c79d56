use Rattle.std.proofs.Common.{refl}
use Rattle.pm_lock.proofs.Lanes.{locked_err, locked_ok}
use Rattle.pm_lock.proofs.taking.lock.Goals as goal

pub returns-in_err-wait_line : goal.returns-in_err-wait_line
returns-in_err-wait_line g c = locked_err g.M.LaneMem.at c.args.line c.args.write c.args.lane.now c.wait_line.new.mem c.in_err-wait_line.field-0.0 c.from_residual.result c.from_residual.ensures.0 c.in_err-wait_line.ensures

pub returns : goal.returns
returns g c = locked_ok g.M.LaneMem.at c.args.line c.args.write c.args.lane.now c.wait_line.new.mem (record c.args.lane.now { memory = c.wait_line.new.mem; locks = c.push.new.self }) c.in_ok-wait_line.ensures refl c.push.ensures.items
