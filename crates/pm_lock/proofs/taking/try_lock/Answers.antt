use Rattle.std.proofs.Common.{refl}
use Rattle.pm_lock.proofs.Lanes.{tried_lost, tried_won}
use Rattle.pm_lock.proofs.taking.try_lock.Goals as goal

pub returns-then-won : goal.returns-then-won
returns-then-won g c = tried_won g.M.LaneMem.at c.args.line c.args.write c.args.lane.now c.try_line-won.new.mem (record c.args.lane.now { memory = c.try_line-won.new.mem; locks = c.push.new.self }) c.try_line-won.result c.if-won.true c.try_line-won.ensures refl c.push.ensures.items

pub returns-else-won : goal.returns-else-won
returns-else-won g c = tried_lost g.M.LaneMem.at c.args.line c.args.write c.args.lane.now c.try_line-won.new.mem c.try_line-won.result c.if-won.false c.try_line-won.ensures
