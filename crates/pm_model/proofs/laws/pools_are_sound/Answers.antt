use Rattle.pm_model.proofs.Pools.{pool_sound}
use Rattle.pm_model.proofs.laws.pools_are_sound.Goals as goal

pub returns : goal.returns
returns c = pool_sound
