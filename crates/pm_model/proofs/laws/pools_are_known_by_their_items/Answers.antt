use Rattle.pm_model.proofs.Known.{same_pools}
use Rattle.pm_model.proofs.laws.pools_are_known_by_their_items.Goals as goal

pub returns : goal.returns
returns c = same_pools
