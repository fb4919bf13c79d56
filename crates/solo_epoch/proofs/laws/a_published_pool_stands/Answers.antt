use Rattle.solo_epoch.proofs.PublishedImages.{image_stands}
use Rattle.solo_epoch.proofs.PublishedPools.{blocks_stand, pool_stands, taken_stands}
use Rattle.solo_epoch.proofs.laws.a_published_pool_stands.Goals as goal

pub returns : goal.returns
returns c = record { image = image_stands; pool = pool_stands; blocks = blocks_stand; taken = taken_stands }
