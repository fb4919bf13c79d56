use Rattle.pm_redo.proofs.SealStored.{clear_lawful}
use Rattle.pm_redo.proofs.laws.seals_may_be_cleared.Goals as goal

pub returns : goal.returns
returns c v can = clear_lawful v can
