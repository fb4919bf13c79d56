use Rattle.pm_redo.proofs.SealStored.{seal_lawful}
use Rattle.pm_redo.proofs.laws.logs_may_be_sealed.Goals as goal

pub returns : goal.returns
returns c v can = seal_lawful v can
