use Rattle.pm_reopen.proofs.AllLanes.{recoverable_if_none}
use Rattle.pm_reopen.proofs.laws.images_without_strays_are_recoverable.Goals as goal

pub returns : goal.returns
returns c = λ image pool words means none. recoverable_if_none image pool words means none
