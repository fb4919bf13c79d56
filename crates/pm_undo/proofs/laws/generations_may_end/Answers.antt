use Rattle.pm_undo.proofs.Retired.{retire_lawful}
use Rattle.pm_undo.proofs.laws.generations_may_end.Goals as goal

pub returns : goal.returns
returns c v can = retire_lawful v can
