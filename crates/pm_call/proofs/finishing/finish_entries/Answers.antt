use Rattle.pm_world.specs.Lent.{operation_of}
use Rattle.pm_call.proofs.FinishedLanes.{finished_entries, logged_err, logged_stands}
use Rattle.pm_call.proofs.finishing.finish_entries.Goals as goal

pub returns-in_err-log : goal.returns-in_err-log
returns-in_err-log g c = logged_err g.M.LaneMem.at c.args.lane.now (operation_of c.args.told) c.log.new.lane c.in_err-log.field-0.0 c.from_residual.result c.from_residual.ensures.0 c.in_err-log.ensures

pub perform_call-requires : goal.perform_call-requires
perform_call-requires g c = logged_stands g.M.LaneMem.at c.args.lane.now (operation_of c.args.told) c.log.new.lane c.requires c.in_ok-log.ensures

pub returns : goal.returns
returns g c = finished_entries g.M.LaneMem.at c.args.lane.now (operation_of c.args.told) c.log.new.lane c.perform_call.new.lane c.perform_call.result c.in_ok-log.ensures c.perform_call.ensures
