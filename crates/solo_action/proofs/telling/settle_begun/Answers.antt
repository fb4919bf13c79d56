use Rattle.solo_action.proofs.Settled.{begun_still}
use Rattle.solo_action.proofs.telling.settle_begun.Goals as goal

pub returns-clause-begun : goal.returns-clause-begun
returns-clause-begun g c = begun_still g.M.LaneMem.at c.args.lane.now c.settle_lane.new.lane c.settle_lane.result c.settle_lane.ensures.settled c.settle_lane.ensures.lane
