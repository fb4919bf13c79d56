use Rattle.pm_image.proofs.LocalPool.{heap_local}
use Rattle.pm_image.proofs.laws.heaps_are_local.Goals as goal

pub returns : goal.returns
returns c = heap_local
