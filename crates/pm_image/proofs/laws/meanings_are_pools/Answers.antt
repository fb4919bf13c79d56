use Rattle.pm_image.proofs.Pools.{meaning_is_pool}
use Rattle.pm_image.proofs.laws.meanings_are_pools.Goals as goal

pub returns : goal.returns
returns c = meaning_is_pool
