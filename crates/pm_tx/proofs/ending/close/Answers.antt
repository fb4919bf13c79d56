use Rattle.pm_tx.proofs.LevelEnds.{closes_locks}
use Rattle.pm_tx.proofs.ending.close.Goals as goal

pub returns : goal.returns
returns g c = closes_locks g.M.LaneMem.at c.args.lane.now c.give_back.new.lane c.give_back.ensures
