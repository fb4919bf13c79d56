use Rattle.solo_model.proofs.Pools.{keeps_pool}
use Rattle.solo_model.proofs.laws.calls_keep_pools.Goals as goal

pub returns : goal.returns
returns c = keeps_pool
