use Rattle.pm_redo.proofs.EntriesApplied.{apply_lawful}
use Rattle.pm_redo.proofs.laws.entries_may_be_applied.Goals as goal

pub returns : goal.returns
returns c v found can = apply_lawful v found can
