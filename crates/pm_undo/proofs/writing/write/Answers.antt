use Rattle.pm_undo.proofs.WordsWritten.{write_ready, written_lane}
use Rattle.pm_undo.proofs.writing.write.Goals as goal

pub store_all-requires-clause-ready : goal.store_all-requires-clause-ready
store_all-requires-clause-ready g c = write_ready g.M.LaneMem.at c.args.lane.now c.args.word c.args.values.now c.requires.stands

pub returns : goal.returns
returns g c = written_lane g.M.LaneMem.at c.args.lane.now c.args.word c.args.values.now c.store_all.new.mem c.store_all.result c.store_all.ensures
