use Rattle.pm_undo.proofs.Snapped.{here_ready, here_runs}
use Rattle.pm_undo.proofs.recording.write_new.Goals as goal

pub log_in-requires-clause-ready : goal.log_in-requires-clause-ready
log_in-requires-clause-ready g c = here_ready (g.M.LaneMem.at c.args.mem.now) c.lane-lane.result c.lane-lane.ensures c.args.shape c.args.generation c.args.slot c.args.records.now c.requires.ready

pub returns : goal.returns
returns g c = here_runs (g.M.LaneMem.at c.args.mem.now) c.lane-lane.result c.lane-lane.ensures c.args.shape c.args.generation c.args.slot c.args.records.now (g.M.LaneMem.at c.log_in.new.mem) c.log_in.result c.log_in.ensures
