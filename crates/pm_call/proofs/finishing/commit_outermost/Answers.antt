use Rattle.pm_call.proofs.CommittedLanes.{committed_ok, finish_cut, finish_may, persist_cut, persist_may}
use Rattle.pm_call.proofs.finishing.commit_outermost.Goals as goal

pub persist_all-requires : goal.persist_all-requires
persist_all-requires g c = persist_may g.M.LaneMem.at c.args.lane.now c.requires

pub returns-in_err-persist_all : goal.returns-in_err-persist_all
returns-in_err-persist_all g c = persist_cut g.M.LaneMem.at c.args.lane.now c.persist_all.new.mem c.in_err-persist_all.field-0.0 c.from_residual.result c.from_residual.ensures.0 c.in_err-persist_all.ensures

pub finish-requires : goal.finish-requires
finish-requires g c = finish_may g.M.LaneMem.at c.args.lane.now c.persist_all.new.mem c.requires c.in_ok-persist_all.ensures

pub returns-in_err-finish : goal.returns-in_err-finish
returns-in_err-finish g c = finish_cut g.M.LaneMem.at c.args.lane.now c.persist_all.new.mem c.finish.new.lane c.in_err-finish.field-0.0 c.from_residual-in_err-finish.result c.from_residual-in_err-finish.ensures.0 c.in_ok-persist_all.ensures c.in_err-finish.ensures

pub returns : goal.returns
returns g c = committed_ok g.M.LaneMem.at c.args.lane.now c.persist_all.new.mem c.finish.new.lane c.in_ok-persist_all.ensures c.in_ok-finish.ensures
