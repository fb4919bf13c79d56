use Rattle.std.proofs.Common.{rules}
use Rattle.pm_objects.specs.declared.calls.Operation.TheVariants.{Cancel}
use Rattle.pm_action.proofs.OutsideLanes.{asked_cancel, cancel_opened, unopened}
use Rattle.pm_action.proofs.outside.cancel_outside.Goals as goal

pub returns-in_err-open_call : goal.returns-in_err-open_call
returns-in_err-open_call g c = unopened g.M.LaneMem.at c.args.lane.now Cancel c.open_call.new.lane c.in_err-open_call.field-0.0 c.from_residual.result (search rules) c.in_err-open_call.ensures

pub do_cancel-requires : goal.do_cancel-requires
do_cancel-requires g c = cancel_opened g.M.LaneMem.at c.args.lane.now c.open_call.new.lane c.open_call.new.lane c.requires c.in_ok-open_call.ensures

pub returns : goal.returns
returns g c = asked_cancel g.M.LaneMem.at c.args.lane.now c.open_call.new.lane c.do_cancel.new.lane c.in_ok-open_call.ensures c.do_cancel.ensures
