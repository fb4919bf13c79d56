use Rattle.solo_tx.proofs.Started.{generation_looked_at}
use Rattle.solo_tx.proofs.starting.load_generation.Goals as goal

pub returns-clause-made : goal.returns-clause-made
returns-clause-made g c = generation_looked_at (g.M.LaneMem.at c.args.lane.now.memory) (g.M.LaneMem.at c.load.new.self) c.lane-number.result c.load.result c.lane-number.ensures c.load.ensures
