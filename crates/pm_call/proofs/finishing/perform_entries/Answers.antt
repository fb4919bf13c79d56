use Rattle.std.proofs.Common.{arith}
use Rattle.pm_call.proofs.FinishedLanes.{next_fits, performed_err, performed_ok}
use Rattle.pm_call.proofs.finishing.perform_entries.Goals as goal

pub returns-in_err-perform : goal.returns-in_err-perform
returns-in_err-perform g c = performed_err g.M.LaneMem.at c.args.lane.now c.perform.new.lane c.in_err-perform.field-0.0 c.from_residual.result c.from_residual.ensures.0 c.in_err-perform.ensures

pub overflow_add-lane : goal.overflow_add-lane
overflow_add-lane g c = let few = next_fits g.M.LaneMem.at c.args.lane.now c.perform.new.lane c.requires c.in_ok-perform.ensures in omega (arith, few)

pub returns : goal.returns
returns g c = performed_ok g.M.LaneMem.at c.args.lane.now c.perform.new.lane c.in_ok-perform.ensures
