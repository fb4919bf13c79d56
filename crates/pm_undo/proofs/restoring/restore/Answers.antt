use Rattle.pm_undo.proofs.Engines.{restore_fit, restore_ready, restored_lane}
use Rattle.pm_undo.proofs.restoring.restore.Goals as goal

pub restore_all-requires-clause-fit : goal.restore_all-requires-clause-fit
restore_all-requires-clause-fit g c = restore_fit g.M.LaneMem.at c.args.lane.now c.as_slice.result.now c.as_slice.ensures.value c.requires

pub restore_all-requires-clause-ready : goal.restore_all-requires-clause-ready
restore_all-requires-clause-ready g c = restore_ready g.M.LaneMem.at c.args.lane.now c.as_slice.result.now c.as_slice.ensures.value c.requires

pub returns : goal.returns
returns g c = restored_lane g.M.LaneMem.at c.args.lane.now c.as_slice.result.now c.as_slice.ensures.value c.restore_all.new.mem c.restore_all.result c.restore_all.ensures
