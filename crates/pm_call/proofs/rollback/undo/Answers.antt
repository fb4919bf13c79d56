use Rattle.pm_call.proofs.RollbackLanes.{retire_stands, undone_err, undone_then}
use Rattle.pm_call.proofs.rollback.undo.Goals as goal

pub returns-in_err-restore : goal.returns-in_err-restore
returns-in_err-restore g c = undone_err g.M.LaneMem.at c.args.lane.now c.restore.new.lane c.in_err-restore.field-0.0 c.from_residual.result c.from_residual.ensures.0 c.in_err-restore.ensures

pub retire-requires : goal.retire-requires
retire-requires g c = retire_stands g.M.LaneMem.at c.args.lane.now c.restore.new.lane c.in_ok-restore.ensures c.requires

pub returns : goal.returns
returns g c = undone_then g.M.LaneMem.at c.args.lane.now c.restore.new.lane c.retire.new.lane c.retire.result c.in_ok-restore.ensures c.retire.ensures
